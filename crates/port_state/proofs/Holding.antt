-- What the code keeps as an operation is held, and as the order of those that are held is another.
use Rattle.std.proofs.Common.{◌≡◌, ℕ, ◌+◌, ◌++◌, ◌||◌, Bool, true, false, cond, nat_eq, nat_lt, length, is_some, List, [], ◌∷◌, Option, None, Some, refl, sym, ap, ◌∙◌, subst, arith, zero-add}
use Rattle.std.specs.List.{All, count_by}
use Rattle.std.specs.Map.{lookup}
use Rattle.std.specs.Option.{option_map}
use Rattle.std.proofs.lemmas.Bool.{eq-eqb}
use Rattle.std.proofs.lemmas.List.{length-append}
use Rattle.std.proofs.lemmas.List.Sums.{sum_by-append}
use Rattle.std.proofs.lemmas.List.Elements.{All-nil, All-cons, All-head, All-tail, All-push}
use Rattle.flow_rules.specs.RuleView.{RuleView}
use Rattle.flow_rules.specs.Shared.{shared_at}
use Rattle.indirect_counters.specs.Entries.{Entries, values_in_effect}
use Rattle.template_tables.specs.TableView.{TableView}
use Rattle.template_tables.specs.TemplatesView.{TemplatesView, table_of, with_table}
use Rattle.template_tables.specs.Slots.{reserved}
use Rattle.port_state.specs.declared.held.Held.{Held}
use Rattle.port_state.specs.declared.held.Held.TheVariants as held
use Rattle.port_state.specs.Apart.{is_held_shared, is_shared_creation}
use Rattle.port_state.specs.Kept.{is_held_in, is_reserved, IsGiven, IsReserved, IsReservedFor, HasReserved, IsHeldIn, AreKeptFor}
use Rattle.port_state.specs.State.{Placed}
use Rattle.port_state.specs.StateInside.{HasSettled, HaveSettled, IsSettled, IsSettledAt, IsSettledIn}
use Rattle.port_state.proofs.Settling.{later, given-later}
use Rattle.port_state.proofs.Slots.{have-with, table_of-with, lookup-last, lookup-pushed, none-above}
use Rattle.port_state.proofs.Waiting.{count_by-first}

-- the order doesn't matter
pub kept-same : (ids : ℕ) (t : TemplatesView) (shared : Entries) (ops ops' : List Held) → ((test : Held → Bool) → count_by test ops' ≡ count_by test ops)
    → ((P : Held → Type 0) → All P ops → All P ops') → AreKeptFor ids t shared ops → AreKeptFor ids t shared ops'
kept-same ids t shared ops ops' counts all kept = record {
  tables = λ q. by q (table_of q t) (kept.tables q);
  each = all (IsHeldIn t shared) kept.each;
  used = λ q. kept.used q ∙ ap (λ n. is_some (shared_at q (values_in_effect shared)) || nat_lt 0 n) (sym (counts (is_held_shared q)));
  number = kept.number ∙ ap (λ n. length (values_in_effect shared) + n) (sym (counts is_shared_creation));
} where
  by : (q : ℕ) (o : Option TableView) → HasReserved ids ops q o → HasReserved ids ops' q o
  by q None none = counts (is_held_in q) ∙ none
  by q (Some view) r = record { number = r.number ∙ sym (counts (is_held_in q)); given = r.given; above = r.above }

-- an operation that takes no id and no slot
abbrev pub TakesNothing : Held → Type 0
TakesNothing (held.RuleCreated rule table) = ⊥
TakesNothing (held.RuleDestroyed id) = Unit {0}
TakesNothing (held.SharedCreated id value) = ⊥
TakesNothing (held.SharedUpdated id value) = Unit {0}
TakesNothing (held.SharedDestroyed id) = Unit {0}

-- it counts for nothing that is kept, whether it is held or not
module _ (op : Held) (nothing : (test : Held → Bool) → (q : ℕ) → (is_held_in q op ≡ false) × (is_held_shared q op ≡ false) × (is_shared_creation op ≡ false)) where
  same : (test : Held → Bool) (ops : List Held) → test op ≡ false → count_by test (op ∷ ops) ≡ count_by test ops
  same test ops is = omega (arith, count_by-first test op ops, ap {B = ℕ} (λ b. cond b 1 0) is)

  pub kept-with : (ids : ℕ) (t : TemplatesView) (shared : Entries) (ops : List Held) → IsHeldIn t shared op → AreKeptFor ids t shared ops → AreKeptFor ids t shared (op ∷ ops)
  kept-with ids t shared ops here kept = record {
    tables = λ q. by q (table_of q t) (kept.tables q);
    each = All-cons (IsHeldIn t shared) op ops here kept.each;
    used = λ q. kept.used q ∙ ap (λ n. is_some (shared_at q (values_in_effect shared)) || nat_lt 0 n) (sym (same (is_held_shared q) ops (nothing is_shared_creation q).1));
    number = kept.number ∙ ap (λ n. length (values_in_effect shared) + n) (sym (same is_shared_creation ops (nothing is_shared_creation 0).2));
  } where
    by : (q : ℕ) (o : Option TableView) → HasReserved ids ops q o → HasReserved ids (op ∷ ops) q o
    by q None none = same (is_held_in q) ops (nothing is_shared_creation q).0 ∙ none
    by q (Some view) r = record { number = r.number ∙ sym (same (is_held_in q) ops (nothing is_shared_creation q).0); given = r.given; above = r.above }

  pub kept-without : (ids : ℕ) (t : TemplatesView) (shared : Entries) (ops : List Held) → AreKeptFor ids t shared (op ∷ ops) → AreKeptFor ids t shared ops
  kept-without ids t shared ops kept = record {
    tables = λ q. by q (table_of q t) (kept.tables q);
    each = All-tail (IsHeldIn t shared) op ops kept.each;
    used = λ q. kept.used q ∙ ap (λ n. is_some (shared_at q (values_in_effect shared)) || nat_lt 0 n) (same (is_held_shared q) ops (nothing is_shared_creation q).1);
    number = kept.number ∙ ap (λ n. length (values_in_effect shared) + n) (same is_shared_creation ops (nothing is_shared_creation 0).2);
  } where
    by : (q : ℕ) (o : Option TableView) → HasReserved ids (op ∷ ops) q o → HasReserved ids ops q o
    by q None none = sym (same (is_held_in q) ops (nothing is_shared_creation q).0) ∙ none
    by q (Some view) r = record { number = r.number ∙ same (is_held_in q) ops (nothing is_shared_creation q).0; given = r.given; above = r.above }

-- a slot is reserved for the id that is given next
module _ (ids table : ℕ) (t : TemplatesView) (at : TableView) (is : table_of table t ≡ Some at) where
  reserve-settled : (rule : RuleView) (k : ℕ) → IsSettledIn rule (table_of k t) → IsSettledIn rule (table_of k (with_table table (reserved ids) t))
  reserve-settled rule k found = subst (IsSettledIn rule) (sym (table_of-with table (reserved ids) t k)) (by (nat_eq k table) (table_of k t) found) where
    by : (b : Bool) (o : Option TableView) → IsSettledIn rule o → IsSettledIn rule (cond b (option_map (reserved ids) o) o)
    by true None at' = at'
    by true (Some view) at' = lookup-pushed rule.id view.slots (ids, None) (Some rule) at'
    by false o at' = at'

  pub reserved-settled : (rules : List Placed) → All (IsSettled t) rules → All (IsSettled (with_table table (reserved ids) t)) rules
  reserved-settled [] all = All-nil (IsSettled (with_table table (reserved ids) t))
  reserved-settled (r ∷ rules) all =
      All-cons (IsSettled (with_table table (reserved ids) t)) r rules (by r r.table (All-head (IsSettled t) r rules all)) (reserved-settled rules (All-tail (IsSettled t) r rules all)) where
        by : (x : Placed) (o : Option ℕ) → IsSettledAt t x.rule o → IsSettledAt (with_table table (reserved ids) t) x.rule o
        by x None found = tt
        by x (Some k) found = reserve-settled x.rule k found

  one-more : (slots : List (ℕ × Option RuleView)) → count_by is_reserved (slots ++ (ids, None) ∷ []) ≡ count_by is_reserved slots + 1
  one-more slots = sum_by-append (λ y. cond (is_reserved y) 1 0) slots ((ids, None) ∷ []) ∙ ap (λ n. count_by is_reserved slots + n) (zero-add 1)

  pub reserved-slots : (rules : List Placed) → HaveSettled rules t → HaveSettled rules (with_table table (reserved ids) t)
  reserved-slots rules have = have-with table (reserved ids) t (HasSettled rules) (λ q other. have q)
      (subst (λ o. HasSettled rules table (option_map (reserved ids) o)) (sym is)
      (omega (arith, subst (HasSettled rules table) is (have table), length-append at.slots ((ids, None) ∷ []), one-more at.slots)))

  pub reserved-kept : (rule : RuleView) (shared : Entries) (ops : List Held) → rule.id ≡ ids → AreKeptFor ids t shared ops
      → AreKeptFor (ids + 1) (with_table table (reserved ids) t) shared (held.RuleCreated rule table ∷ ops)
  reserved-kept rule shared ops own kept = record {
    tables = have-with table (reserved ids) t (HasReserved (ids + 1) (held.RuleCreated rule table ∷ ops)) others here;
    each = All-cons (IsHeldIn (with_table table (reserved ids) t) shared) (held.RuleCreated rule table) ops found (each ops kept.each);
    used = λ q. kept.used q ∙ ap (λ n. is_some (shared_at q (values_in_effect shared)) || nat_lt 0 n) (sym (omega (arith, count_by-first (is_held_shared q) (held.RuleCreated rule table) ops)));
    number = omega (arith, kept.number, count_by-first is_shared_creation (held.RuleCreated rule table) ops);
  } where
    split : (q : ℕ) → count_by (is_held_in q) (held.RuleCreated rule table ∷ ops) ≡ cond (nat_eq q table) 1 0 + count_by (is_held_in q) ops
    split q = count_by-first (is_held_in q) (held.RuleCreated rule table) ops

    before : IsReservedFor ids table ops at
    before = subst (HasReserved ids ops table) is (kept.tables table)

    others : (q : ℕ) → nat_eq q table ≡ false → HasReserved (ids + 1) (held.RuleCreated rule table ∷ ops) q (table_of q t)
    others q other = by (table_of q t) (later ids q ops (table_of q t) (kept.tables q)) where
      none : count_by (is_held_in q) (held.RuleCreated rule table ∷ ops) ≡ count_by (is_held_in q) ops
      none = omega (arith, split q, ap {B = ℕ} (λ b. cond b 1 0) other)

      by : (o : Option TableView) → HasReserved (ids + 1) ops q o → HasReserved (ids + 1) (held.RuleCreated rule table ∷ ops) q o
      by None nothing = none ∙ nothing
      by (Some view) r = record { number = r.number ∙ sym none; given = r.given; above = r.above }

    here : HasReserved (ids + 1) (held.RuleCreated rule table ∷ ops) table (option_map (reserved ids) (table_of table t))
    here = subst (λ o. HasReserved (ids + 1) (held.RuleCreated rule table ∷ ops) table (option_map (reserved ids) o)) (sym is) now where
      now : IsReservedFor (ids + 1) table (held.RuleCreated rule table ∷ ops) (reserved ids at)
      now = record {
        number = omega (arith, before.number, one-more at.slots, split table, ap {B = ℕ} (λ b. cond b 1 0) (eq-eqb table table refl));
        given = All-push (IsGiven (ids + 1)) at.slots (ids, None) (given-later ids at.slots before.given) (omega arith);
        above = omega arith;
      }

    found : IsReserved rule.id (table_of table (with_table table (reserved ids) t))
    found =
        subst (IsReserved rule.id)
        (sym (table_of-with table (reserved ids) t table ∙ ap (λ b. cond b (option_map (reserved ids) (table_of table t)) (table_of table t)) (eq-eqb table table refl) ∙ ap (option_map (reserved ids)) is))
        (subst (λ k. lookup (nat_eq k) (at.slots ++ (ids, None) ∷ []) ≡ Some None) (sym own) (lookup-last ids at.slots None (none-above ids at.slots before.given)))

    kept-at : (other : RuleView) (k : ℕ) → IsReserved other.id (table_of k t) → IsReserved other.id (table_of k (with_table table (reserved ids) t))
    kept-at other k found' = subst (IsReserved other.id) (sym (table_of-with table (reserved ids) t k)) (by (nat_eq k table) (table_of k t) found') where
      by : (b : Bool) (o : Option TableView) → IsReserved other.id o → IsReserved other.id (cond b (option_map (reserved ids) o) o)
      by true None at' = at'
      by true (Some view) at' = lookup-pushed other.id view.slots (ids, None) None at'
      by false o at' = at'

    held-at : (op : Held) → IsHeldIn t shared op → IsHeldIn (with_table table (reserved ids) t) shared op
    held-at (held.RuleCreated other k) found' = kept-at other k found'
    held-at (held.RuleDestroyed q) found' = tt
    held-at (held.SharedCreated q value) found' = found'
    held-at (held.SharedUpdated q value) found' = tt
    held-at (held.SharedDestroyed q) found' = tt

    each : (xs : List Held) → All (IsHeldIn t shared) xs → All (IsHeldIn (with_table table (reserved ids) t) shared) xs
    each [] all = All-nil (IsHeldIn (with_table table (reserved ids) t) shared)
    each (x ∷ xs) all =
        All-cons (IsHeldIn (with_table table (reserved ids) t) shared) x xs (held-at x (All-head (IsHeldIn t shared) x xs all)) (each xs (All-tail (IsHeldIn t shared) x xs all))
