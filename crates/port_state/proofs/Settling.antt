-- What the code keeps for tables and for held operations, as rules of tables come and go.
use Rattle.std.proofs.Common.{◌≡◌, ℕ, ◌+◌, ◌++◌, ◌<◌, not, Bool, true, false, cond, nat_eq, map, length, is_some, List, [], ◌∷◌, Option, None, Some, refl, sym, ap, ◌∙◌, subst, arith, drop, slice_get}
use Rattle.std.specs.List.{All, IsDistinct, count_by}
use Rattle.std.specs.Map.{keys_of, lookup, remove_entry}
use Rattle.std.specs.Option.{option_map}
use Rattle.std.proofs.lemmas.Bool.{eqb-true, eq-eqb}
use Rattle.std.proofs.lemmas.List.Elements.{All-nil, All-cons, All-head, All-tail}
use Rattle.std.proofs.lemmas.Option.{same_Some}
use Rattle.flow_rules.specs.RuleView.{RuleView}
use Rattle.flow_rules.specs.Changes.{has_id}
use Rattle.flow_rules.specs.Naming.{rule_at}
use Rattle.template_tables.specs.TableView.{TableView}
use Rattle.template_tables.specs.TemplatesView.{TemplatesView, table_of, with_table}
use Rattle.template_tables.specs.Slots.{settled, settled_in, freed, IsAbove}
use Rattle.indirect_counters.specs.Entries.{Entries}
use Rattle.rules_in_effect.specs.declared.in_effect.InEffect.{InEffect}
use Rattle.rules_in_effect.specs.Entries as rules
use Rattle.rules_in_effect.specs.Entries.{AreDistinct}
use Rattle.rules_in_effect.proofs.Distinct.{without-none}
use Rattle.port_state.specs.KeptState.{placed, plan_of, plans_of}
use Rattle.port_state.proofs.RulesKept.{rule_at-placed}
use Rattle.port_state.specs.declared.held.Held.{Held}
use Rattle.port_state.specs.declared.held.Held.TheVariants as held
use Rattle.port_state.specs.Apart.{AreOthers, is_rule, is_held_rule}
use Rattle.port_state.specs.Kept.{is_reserved, is_held_in, IsGiven, IsReserved, IsReservedFor, HasReserved, IsHeldIn, AreKeptFor}
use Rattle.port_state.specs.State.{Placed, rule_in, stands_in, is_table}
use Rattle.port_state.specs.Freed.{freed_all, freed_by}
use Rattle.port_state.proofs.Plans.{plans-with, tables-with}
use Rattle.port_state.specs.StateInside.{HasSettled, HaveSettled, IsSettled, IsSettledAt, IsSettledIn}
use Rattle.port_state.proofs.Waiting.{count_by-first, count_by-last}
use Rattle.port_state.proofs.Slots.{have-with, table_of-with, settling, freeing, freed-others, freed-given, freed-greatest, lookup-others, All-keys-written}

-- where none is counted, none is the first, and none of the others is counted
pub none-first : {A : Type 0} (test : A → Bool) (x : A) (xs : List A) → count_by test (x ∷ xs) ≡ 0 → (test x ≡ false) × (count_by test xs ≡ 0)
none-first test x xs none = by (test x) refl where
  by : (b : Bool) → test x ≡ b → (test x ≡ false) × (count_by test xs ≡ 0)
  by true is = absurd (omega (arith, count_by-first test x xs, ap {B = ℕ} (λ b. cond b 1 0) is, none))
  by false is = (is, omega (arith, count_by-first test x xs, ap {B = ℕ} (λ b. cond b 1 0) is, none))

-- no rule in effect has an id that isn't found
pub others-fresh : (id : ℕ) (rules : List Placed) → rule_at id (map rule_in rules) ≡ None → All (λ (r : Placed). nat_eq r.rule.id id ≡ false) rules
others-fresh id [] fresh = All-nil (λ (r : Placed). nat_eq r.rule.id id ≡ false)
others-fresh id (r ∷ rules) fresh = by (nat_eq r.rule.id id) refl fresh (others-fresh id rules) where
  by : (b : Bool) → nat_eq r.rule.id id ≡ b → cond b (Some r.rule) (rule_at id (map rule_in rules)) ≡ None
      → (rule_at id (map rule_in rules) ≡ None → All (λ (x : Placed). nat_eq x.rule.id id ≡ false) rules) → All (λ (x : Placed). nat_eq x.rule.id id ≡ false) (r ∷ rules)
  by true same none more = cc
  by false other none more = All-cons (λ (x : Placed). nat_eq x.rule.id id ≡ false) r rules other (more none)

-- rules whose ids differ from one keep their settled slots where the slots of other ids are as they were
module _ (id : ℕ) (t t' : TemplatesView)
    (same : (k : ℕ) (rule : RuleView) → nat_eq rule.id id ≡ false → IsSettledIn rule (table_of k t) → IsSettledIn rule (table_of k t')) where
  settled-at : (r : Placed) (o : Option ℕ) → nat_eq r.rule.id id ≡ false → IsSettledAt t r.rule o → IsSettledAt t' r.rule o
  settled-at r None other is = tt
  settled-at r (Some k) other is = same k r.rule other is

  pub keep-settled : (rules : List Placed) → All (λ (r : Placed). nat_eq r.rule.id id ≡ false) rules → All (IsSettled t) rules → All (IsSettled t') rules
  keep-settled [] others all = All-nil (IsSettled t')
  keep-settled (r ∷ rules) others all =
      All-cons (IsSettled t') r rules
      (settled-at r r.table (All-head (λ (x : Placed). nat_eq x.rule.id id ≡ false) r rules others) (All-head (IsSettled t) r rules all))
      (keep-settled rules (All-tail (λ (x : Placed). nat_eq x.rule.id id ≡ false) r rules others) (All-tail (IsSettled t) r rules all))

-- and so do held rules keep their reserved ones
module _ (id : ℕ) (t t' : TemplatesView) (shared : Entries)
    (same : (k : ℕ) (rule : RuleView) → nat_eq rule.id id ≡ false → IsReserved rule.id (table_of k t) → IsReserved rule.id (table_of k t')) where
  held-at : (op : Held) → is_held_rule id op ≡ false → IsHeldIn t shared op → IsHeldIn t' shared op
  held-at (held.RuleCreated rule k) other is = same k rule other is
  held-at (held.RuleDestroyed q) other is = tt
  held-at (held.SharedCreated q value) other is = is
  held-at (held.SharedUpdated q value) other is = tt
  held-at (held.SharedDestroyed q) other is = tt

  pub keep-held : (ops : List Held) → count_by (is_held_rule id) ops ≡ 0 → All (IsHeldIn t shared) ops → All (IsHeldIn t' shared) ops
  keep-held [] none all = All-nil (IsHeldIn t' shared)
  keep-held (op ∷ ops) none all =
      let parts = none-first (is_held_rule id) op ops none in
      All-cons (IsHeldIn t' shared) op ops (held-at op parts.0 (All-head (IsHeldIn t shared) op ops all)) (keep-held ops parts.1 (All-tail (IsHeldIn t shared) op ops all))

-- what stands in the table of another id
stands-other : (q id : ℕ) → nat_eq q id ≡ false → is_table q (Some id) ≡ false
stands-other q id other = other

-- a rule takes effect in its table
module _ (rule : RuleView) (table : ℕ) (t : TemplatesView) (at : TableView) (is : table_of table t ≡ Some at) (reserved : lookup (nat_eq rule.id) at.slots ≡ Some None) where
  settle_it : TemplatesView
  settle_it = with_table table (settled rule) t

  settle-settled : (k : ℕ) (other : RuleView) → nat_eq other.id rule.id ≡ false → IsSettledIn other (table_of k t) → IsSettledIn other (table_of k (with_table table (settled rule) t))
  settle-settled k other apart found = subst (IsSettledIn other) (sym (table_of-with table (settled rule) t k)) (by (nat_eq k table) (table_of k t) found) where
    by : (b : Bool) (o : Option TableView) → IsSettledIn other o → IsSettledIn other (cond b (option_map (settled rule) o) o)
    by true None at' = at'
    by true (Some view) at' = lookup-others rule.id other.id view.slots (Some rule) apart ∙ at'
    by false o at' = at'

  settle-reserved : (k : ℕ) (other : RuleView) → nat_eq other.id rule.id ≡ false → IsReserved other.id (table_of k t) → IsReserved other.id (table_of k (with_table table (settled rule) t))
  settle-reserved k other apart found = subst (IsReserved other.id) (sym (table_of-with table (settled rule) t k)) (by (nat_eq k table) (table_of k t) found) where
    by : (b : Bool) (o : Option TableView) → IsReserved other.id o → IsReserved other.id (cond b (option_map (settled rule) o) o)
    by true None at' = at'
    by true (Some view) at' = lookup-others rule.id other.id view.slots (Some rule) apart ∙ at'
    by false o at' = at'

  settle-here : IsSettledIn rule (table_of table (with_table table (settled rule) t))
  settle-here =
      subst (IsSettledIn rule) (sym (table_of-with table (settled rule) t table ∙ ap (λ b. cond b (option_map (settled rule) (table_of table t)) (table_of table t)) (eq-eqb table table refl) ∙ ap (option_map (settled rule)) is))
      (settling rule at reserved).here

  pub taken-settled : (rules : List Placed) → rule_at rule.id (map rule_in rules) ≡ None → All (IsSettled t) rules
      → All (IsSettled (with_table table (settled rule) t)) (rules ++ record { rule = rule; table = Some table } ∷ [])
  taken-settled rules fresh all =
      push rules (keep-settled rule.id t (with_table table (settled rule) t) settle-settled rules (others-fresh rule.id rules fresh) all) where
        push : (xs : List Placed) → All (IsSettled (with_table table (settled rule) t)) xs
            → All (IsSettled (with_table table (settled rule) t)) (xs ++ record { rule = rule; table = Some table } ∷ [])
        push [] all' = All-cons (IsSettled (with_table table (settled rule) t)) (record { rule = rule; table = Some table }) [] settle-here (All-nil (IsSettled (with_table table (settled rule) t)))
        push (x ∷ xs) all' = All-cons (IsSettled (with_table table (settled rule) t)) x (xs ++ record { rule = rule; table = Some table } ∷ [])
            (All-head (IsSettled (with_table table (settled rule) t)) x xs all') (push xs (All-tail (IsSettled (with_table table (settled rule) t)) x xs all'))

  pub taken-slots : (rules : List Placed) → HaveSettled rules t → HaveSettled (rules ++ record { rule = rule; table = Some table } ∷ []) (with_table table (settled rule) t)
  taken-slots rules have = have-with table (settled rule) t (HasSettled (rules ++ record { rule = rule; table = Some table } ∷ [])) others here where
    others : (q : ℕ) → nat_eq q table ≡ false → HasSettled (rules ++ record { rule = rule; table = Some table } ∷ []) q (table_of q t)
    others q other = by (table_of q t) (have q) where
      more : count_by (stands_in q) (rules ++ record { rule = rule; table = Some table } ∷ []) ≡ count_by (stands_in q) rules
      more = omega (arith, count_by-last (stands_in q) rules (record { rule = rule; table = Some table }), ap {B = ℕ} (λ b. cond b 1 0) (stands-other q table other))

      by : (o : Option TableView) → HasSettled rules q o → HasSettled (rules ++ record { rule = rule; table = Some table } ∷ []) q o
      by None none = more ∙ none
      by (Some view) number = number ∙ ap (λ n. n + count_by is_reserved view.slots) (sym more)

    here : HasSettled (rules ++ record { rule = rule; table = Some table } ∷ []) table (option_map (settled rule) (table_of table t))
    here = subst (λ o. HasSettled (rules ++ record { rule = rule; table = Some table } ∷ []) table (option_map (settled rule) o)) (sym is) now where
      number : length at.slots ≡ count_by (stands_in table) rules + count_by is_reserved at.slots
      number = subst (HasSettled rules table) is (have table)

      now : HasSettled (rules ++ record { rule = rule; table = Some table } ∷ []) table (Some (settled rule at))
      now =
          let s = settling rule at reserved in
          let one : cond (nat_eq table table) 1 0 ≡ 1 = ap {B = ℕ} (λ b. cond b 1 0) (eq-eqb table table refl) in
          omega (arith, number, s.length_is, s.reserved_is, count_by-last (stands_in table) rules (record { rule = rule; table = Some table }), one)

  pub taken-kept : (ids : ℕ) (shared : Entries) (ops : List Held) → count_by (is_held_rule rule.id) ops ≡ 0 → AreKeptFor ids t shared (held.RuleCreated rule table ∷ ops)
      → AreKeptFor ids (with_table table (settled rule) t) shared ops
  taken-kept ids shared ops alone kept = record {
    tables = have-with table (settled rule) t (HasReserved ids ops) others here;
    each = keep-held rule.id t (with_table table (settled rule) t) shared settle-reserved ops alone (All-tail (IsHeldIn t shared) (held.RuleCreated rule table) ops kept.each);
    used = kept.used;
    number = kept.number;
  } where
    split : (q : ℕ) → count_by (is_held_in q) (held.RuleCreated rule table ∷ ops) ≡ cond (nat_eq q table) 1 0 + count_by (is_held_in q) ops
    split q = count_by-first (is_held_in q) (held.RuleCreated rule table) ops

    others : (q : ℕ) → nat_eq q table ≡ false → HasReserved ids ops q (table_of q t)
    others q other = by (table_of q t) (kept.tables q) where
      fewer : count_by (is_held_in q) (held.RuleCreated rule table ∷ ops) ≡ count_by (is_held_in q) ops
      fewer = omega (arith, split q, ap {B = ℕ} (λ b. cond b 1 0) other)

      by : (o : Option TableView) → HasReserved ids (held.RuleCreated rule table ∷ ops) q o → HasReserved ids ops q o
      by None none = sym fewer ∙ none
      by (Some view) r = record { number = r.number ∙ fewer; given = r.given; above = r.above }

    here : HasReserved ids ops table (option_map (settled rule) (table_of table t))
    here = subst (λ o. HasReserved ids ops table (option_map (settled rule) o)) (sym is) now where
      before : IsReservedFor ids table (held.RuleCreated rule table ∷ ops) at
      before = subst (HasReserved ids (held.RuleCreated rule table ∷ ops) table) is (kept.tables table)

      now : IsReservedFor ids table ops (settled rule at)
      now =
          let s = settling rule at reserved in
          let one : cond (nat_eq table table) 1 0 ≡ 1 = ap {B = ℕ} (λ b. cond b 1 0) (eq-eqb table table refl) in
          record {
            number = omega (arith, before.number, s.reserved_is, split table, one);
            given = All-keys-written (λ k. k < ids) rule.id at.slots (Some rule) before.given;
            above = before.above;
          }

-- one rule goes, and no other has its id
pub record Removes (r : Placed) (rules rules' : List Placed) : Type 1 where
  pub counts : (test : Placed → Bool) → count_by test rules' + cond (test r) 1 0 ≡ count_by test rules
  pub there : (P : Placed → Type 0) → All P rules → P r
  pub left : (P : Placed → Type 0) → All P rules → All P rules'
  pub apart : All (λ (x : Placed). nat_eq x.rule.id r.rule.id ≡ false) rules'

-- it stands in no table
pub plain-slots : (r : Placed) (rules rules' : List Placed) (t : TemplatesView) → Removes r rules rules' → r.table ≡ None → HaveSettled rules t → HaveSettled rules' t
plain-slots r rules rules' t removes none have q = by (table_of q t) (have q) where
  same : count_by (stands_in q) rules' ≡ count_by (stands_in q) rules
  same = omega (arith, removes.counts (stands_in q), ap {B = ℕ} (λ o. cond (is_table q o) 1 0) none)

  by : (o : Option TableView) → HasSettled rules q o → HasSettled rules' q o
  by None at = same ∙ at
  by (Some view) at = at ∙ ap (λ n. n + count_by is_reserved view.slots) (sym same)

-- or it stands in one, and its slot is free
module _ (r : Placed) (table : ℕ) (t : TemplatesView) (at : TableView) (in_table : r.table ≡ Some table) (is : table_of table t ≡ Some at)
    (found : lookup (nat_eq r.rule.id) at.slots ≡ Some (Some r.rule)) where
  free-settled : (k : ℕ) (other : RuleView) → nat_eq other.id r.rule.id ≡ false → IsSettledIn other (table_of k t) → IsSettledIn other (table_of k (with_table table (freed r.rule.id) t))
  free-settled k other apart settled = subst (IsSettledIn other) (sym (table_of-with table (freed r.rule.id) t k)) (by (nat_eq k table) (table_of k t) settled) where
    by : (b : Bool) (o : Option TableView) → IsSettledIn other o → IsSettledIn other (cond b (option_map (freed r.rule.id) o) o)
    by true None at' = at'
    by true (Some view) at' = freed-others r.rule.id other.id view apart ∙ at'
    by false o at' = at'

  free-reserved : (k : ℕ) (other : RuleView) → nat_eq other.id r.rule.id ≡ false → IsReserved other.id (table_of k t) → IsReserved other.id (table_of k (with_table table (freed r.rule.id) t))
  free-reserved k other apart reserved = subst (IsReserved other.id) (sym (table_of-with table (freed r.rule.id) t k)) (by (nat_eq k table) (table_of k t) reserved) where
    by : (b : Bool) (o : Option TableView) → IsReserved other.id o → IsReserved other.id (cond b (option_map (freed r.rule.id) o) o)
    by true None at' = at'
    by true (Some view) at' = freed-others r.rule.id other.id view apart ∙ at'
    by false o at' = at'

  pub freed-settled : (rules rules' : List Placed) → Removes r rules rules' → All (IsSettled t) rules → All (IsSettled (with_table table (freed r.rule.id) t)) rules'
  freed-settled rules rules' removes all =
      keep-settled r.rule.id t (with_table table (freed r.rule.id) t) free-settled rules' removes.apart (removes.left (IsSettled t) all)

  pub freed-slots : (rules rules' : List Placed) → Removes r rules rules' → HaveSettled rules t → HaveSettled rules' (with_table table (freed r.rule.id) t)
  freed-slots rules rules' removes have = have-with table (freed r.rule.id) t (HasSettled rules') others here where
    others : (q : ℕ) → nat_eq q table ≡ false → HasSettled rules' q (table_of q t)
    others q other = by (table_of q t) (have q) where
      same : count_by (stands_in q) rules' ≡ count_by (stands_in q) rules
      same = omega (arith, removes.counts (stands_in q), ap {B = ℕ} (λ o. cond (is_table q o) 1 0) in_table, ap {B = ℕ} (λ b. cond b 1 0) other)

      by : (o : Option TableView) → HasSettled rules q o → HasSettled rules' q o
      by None none = same ∙ none
      by (Some view) number = number ∙ ap (λ n. n + count_by is_reserved view.slots) (sym same)

    here : HasSettled rules' table (option_map (freed r.rule.id) (table_of table t))
    here = subst (λ o. HasSettled rules' table (option_map (freed r.rule.id) o)) (sym is) now where
      number : length at.slots ≡ count_by (stands_in table) rules + count_by is_reserved at.slots
      number = subst (HasSettled rules table) is (have table)

      now : HasSettled rules' table (Some (freed r.rule.id at))
      now =
          let f = freeing r.rule.id r.rule at found in
          let one : cond (stands_in table r) 1 0 ≡ 1 = ap {B = ℕ} (λ o. cond (is_table table o) 1 0) in_table ∙ ap {B = ℕ} (λ b. cond b 1 0) (eq-eqb table table refl) in
          omega (arith, number, f.length_is, f.reserved_is, removes.counts (stands_in table), one)

  pub freed-kept : (ids : ℕ) (shared : Entries) (ops : List Held) → count_by (is_held_rule r.rule.id) ops ≡ 0 → AreKeptFor ids t shared ops
      → AreKeptFor ids (with_table table (freed r.rule.id) t) shared ops
  freed-kept ids shared ops alone kept = record {
    tables = have-with table (freed r.rule.id) t (HasReserved ids ops) (λ q other. kept.tables q) here;
    each = keep-held r.rule.id t (with_table table (freed r.rule.id) t) shared free-reserved ops alone kept.each;
    used = kept.used;
    number = kept.number;
  } where
    here : HasReserved ids ops table (option_map (freed r.rule.id) (table_of table t))
    here = subst (λ o. HasReserved ids ops table (option_map (freed r.rule.id) o)) (sym is) now where
      before : IsReservedFor ids table ops at
      before = subst (HasReserved ids ops table) is (kept.tables table)

      now : IsReservedFor ids table ops (freed r.rule.id at)
      now = record {
        number = (freeing r.rule.id r.rule at found).reserved_is ∙ before.number;
        given = freed-given ids r.rule.id at before.given;
        above = subst (IsAbove ids) (sym (freed-greatest r.rule.id at)) before.above;
      }

-- the table of a rule that stands in one, with its slot
pub record StandsAt (r : Placed) (table : ℕ) (t : TemplatesView) : Type 0 where
  pub view : TableView
  pub is : table_of table t ≡ Some view
  pub found : lookup (nat_eq r.rule.id) view.slots ≡ Some (Some r.rule)

pub stands-at : (r : Placed) (table : ℕ) (t : TemplatesView) → r.table ≡ Some table → IsSettled t r → StandsAt r table t
stands-at r table t in_table settled = by (table_of table t) refl (subst (IsSettledAt t r.rule) in_table settled) where
  by : (o : Option TableView) → table_of table t ≡ o → IsSettledIn r.rule o → StandsAt r table t
  by None is none = absurd none
  by (Some view) is found = record { view = view; is = is; found = found }

-- a rule without a table takes effect
pub plain-pushed : (rules : List Placed) (rule : RuleView) (t : TemplatesView) → HaveSettled rules t → HaveSettled (rules ++ record { rule = rule; table = None } ∷ []) t
plain-pushed rules rule t have q = by (table_of q t) (have q) where
  same : count_by (stands_in q) (rules ++ record { rule = rule; table = None } ∷ []) ≡ count_by (stands_in q) rules
  same = omega (arith, count_by-last (stands_in q) rules (record { rule = rule; table = None }))

  by : (o : Option TableView) → HasSettled rules q o → HasSettled (rules ++ record { rule = rule; table = None } ∷ []) q o
  by None at = same ∙ at
  by (Some view) at = at ∙ ap (λ n. n + count_by is_reserved view.slots) (sym same)

-- ids that are given later are greater
pub given-later : (ids : ℕ) (slots : List (ℕ × Option RuleView)) → All (IsGiven ids) slots → All (IsGiven (ids + 1)) slots
given-later ids [] all = All-nil (IsGiven (ids + 1))
given-later ids (e ∷ slots) all =
    All-cons (IsGiven (ids + 1)) e slots (omega (arith, All-head (IsGiven ids) e slots all)) (given-later ids slots (All-tail (IsGiven ids) e slots all))

above-later : (ids : ℕ) (greatest : Option ℕ) → IsAbove ids greatest → IsAbove (ids + 1) greatest
above-later ids None above = tt
above-later ids (Some greatest) above = omega (arith, above)

pub later : (ids q : ℕ) (ops : List Held) (o : Option TableView) → HasReserved ids ops q o → HasReserved (ids + 1) ops q o
later ids q ops None none = none
later ids q ops (Some view) r = record { number = r.number; given = given-later ids view.slots r.given; above = above-later ids view.greatest r.above }

pub kept-later : (ids : ℕ) (t : TemplatesView) (shared : Entries) (ops : List Held) → AreKeptFor ids t shared ops → AreKeptFor (ids + 1) t shared ops
kept-later ids t shared ops kept = record { tables = λ q. later ids q ops (table_of q t) (kept.tables q); each = kept.each; used = kept.used; number = kept.number }

-- one of the entries goes
count-left : (test : Placed → Bool) (id : ℕ) (list : List InEffect) (entry : InEffect) → AreDistinct list → rules.entry_at id list ≡ Some entry
    → count_by test (map placed (rules.without id list)) + cond (test (placed entry)) 1 0 ≡ count_by test (map placed list)
count-left test id [] entry distinct found = cc
count-left test id (e ∷ list) entry distinct found = by (has_id id e.rule) refl found (count-left test id list entry distinct.1) where
  by : (b : Bool) → has_id id e.rule ≡ b → cond b (Some e) (rules.entry_at id list) ≡ Some entry
      → (rules.entry_at id list ≡ Some entry → count_by test (map placed (rules.without id list)) + cond (test (placed entry)) 1 0 ≡ count_by test (map placed list))
      → count_by test (map placed (cond (not b) (e ∷ rules.without id list) (rules.without id list))) + cond (test (placed entry)) 1 0 ≡ count_by test (placed e ∷ map placed list)
  by true same at more =
      let none : rules.entry_at id list ≡ None = subst (λ k. rules.entry_at k list ≡ None) (eqb-true e.rule.id id same) distinct.0 in
      let here : cond (test (placed entry)) 1 0 ≡ cond (test (placed e)) 1 0 = ap {B = ℕ} (λ (x : InEffect). cond (test (placed x)) 1 0) (sym (same_Some _ _ at)) in
      omega (arith, ap (λ l. count_by test (map placed l)) (without-none id list none), here, count_by-first test (placed e) (map placed list))
  by false other at more =
      omega (arith, more at, count_by-first test (placed e) (map placed (rules.without id list)), count_by-first test (placed e) (map placed list))

all-of : (P : Placed → Type 0) (id : ℕ) (list : List InEffect) (entry : InEffect) → rules.entry_at id list ≡ Some entry → All P (map placed list) → P (placed entry)
all-of P id [] entry found all = cc
all-of P id (e ∷ list) entry found all = by (has_id id e.rule) found (λ at. all-of P id list entry at (All-tail P (placed e) (map placed list) all)) where
  by : (b : Bool) → cond b (Some e) (rules.entry_at id list) ≡ Some entry → (rules.entry_at id list ≡ Some entry → P (placed entry)) → P (placed entry)
  by true at more = subst (λ (x : InEffect). P (placed x)) (same_Some _ _ at) (All-head P (placed e) (map placed list) all)
  by false at more = more at

all-left : (P : Placed → Type 0) (id : ℕ) (list : List InEffect) → All P (map placed list) → All P (map placed (rules.without id list))
all-left P id [] all = all
all-left P id (e ∷ list) all = by (has_id id e.rule) (all-left P id list (All-tail P (placed e) (map placed list) all)) where
  by : (b : Bool) → All P (map placed (rules.without id list)) → All P (map placed (cond (not b) (e ∷ rules.without id list) (rules.without id list)))
  by true behind = behind
  by false behind = All-cons P (placed e) (map placed (rules.without id list)) (All-head P (placed e) (map placed list) all) behind

all-apart : (id : ℕ) (list : List InEffect) → All (λ (x : Placed). nat_eq x.rule.id id ≡ false) (map placed (rules.without id list))
all-apart id [] = All-nil (λ (x : Placed). nat_eq x.rule.id id ≡ false)
all-apart id (e ∷ list) = by (has_id id e.rule) refl (all-apart id list) where
  by : (b : Bool) → has_id id e.rule ≡ b → All (λ (x : Placed). nat_eq x.rule.id id ≡ false) (map placed (rules.without id list))
      → All (λ (x : Placed). nat_eq x.rule.id id ≡ false) (map placed (cond (not b) (e ∷ rules.without id list) (rules.without id list)))
  by true same behind = behind
  by false other behind = All-cons (λ (x : Placed). nat_eq x.rule.id id ≡ false) (placed e) (map placed (rules.without id list)) other behind

id-of : (id : ℕ) (list : List InEffect) (entry : InEffect) → rules.entry_at id list ≡ Some entry → entry.rule.id ≡ id
id-of id [] entry found = cc
id-of id (e ∷ list) entry found = by (has_id id e.rule) refl found (id-of id list entry) where
  by : (b : Bool) → has_id id e.rule ≡ b → cond b (Some e) (rules.entry_at id list) ≡ Some entry → (rules.entry_at id list ≡ Some entry → entry.rule.id ≡ id) → entry.rule.id ≡ id
  by true same at more = ap (λ (x : InEffect). x.rule.id) (sym (same_Some _ _ at)) ∙ eqb-true e.rule.id id same
  by false other at more = more at

pub removes : (id : ℕ) (list : List InEffect) (entry : InEffect) → AreDistinct list → rules.entry_at id list ≡ Some entry → Removes (placed entry) (map placed list) (map placed (rules.without id list))
removes id list entry distinct found = record {
  counts = λ test. count-left test id list entry distinct found;
  there = λ P. all-of P id list entry found;
  left = λ P. all-left P id list;
  apart = subst (λ k. All (λ (x : Placed). nat_eq x.rule.id k ≡ false) (map placed (rules.without id list))) (sym (id-of id list entry found)) (all-apart id list);
}

-- no entry has an id that no rule has
none-of : (o : Option InEffect) → option_map rules.rule_in o ≡ None → o ≡ None
none-of None none = refl
none-of (Some entry) none = cc

pub entry-free : (id : ℕ) (list : List InEffect) → rule_at id (map rule_in (map placed list)) ≡ None → rules.entry_at id list ≡ None
entry-free id list free = none-of (rules.entry_at id list) (sym (rule_at-placed id list) ∙ free)

-- the table in which a slot is reserved
pub record ReservedAt (id table : ℕ) (t : TemplatesView) : Type 0 where
  pub view : TableView
  pub is : table_of table t ≡ Some view
  pub found : lookup (nat_eq id) view.slots ≡ Some None

pub reserved-at : (id table : ℕ) (t : TemplatesView) → IsReserved id (table_of table t) → ReservedAt id table t
reserved-at id table t reserved = by (table_of table t) refl reserved where
  by : (o : Option TableView) → table_of table t ≡ o → IsReserved id o → ReservedAt id table t
  by None is none = absurd none
  by (Some view) is found = record { view = view; is = is; found = found }

plan-freed : (k id : ℕ) (view : TableView) → plan_of (k, freed id view) ≡ plan_of (k, view)
plan-freed k id view = by (is_some (settled_in id view)) where
  by : (b : Bool) → plan_of (k, cond b (record view { slots = remove_entry (nat_eq id) view.slots }) view) ≡ plan_of (k, view)
  by true = refl
  by false = refl

-- what is left behind an entry that goes, if there is one
pub record IsLeft (o : Option InEffect) (list' : List InEffect) (t : TemplatesView) : Type 0 where
  pub settled : All (IsSettled (freed_by o t)) (map placed list')
  pub slots : HaveSettled (map placed list') (freed_by o t)
  pub tables : IsDistinct nat_eq (keys_of (freed_by o t).tables)
  pub plans : plans_of (freed_by o t) ≡ plans_of t
  pub kept : (ids : ℕ) (shared : Entries) (ops : List Held) → ((e : InEffect) → o ≡ Some e → count_by (is_held_rule e.rule.id) ops ≡ 0) → AreKeptFor ids t shared ops
      → AreKeptFor ids (freed_by o t) shared ops

left-in : (e : InEffect) (table : Option ℕ) (list list' : List InEffect) (t : TemplatesView) → e.table ≡ table → Removes (placed e) (map placed list) (map placed list')
    → All (IsSettled t) (map placed list) → HaveSettled (map placed list) t → IsDistinct nat_eq (keys_of t.tables)
    → IsLeft (Some (record e { table = table })) list' t
left-in e None list list' t is removes' all have distinct = record {
  settled = removes'.left (IsSettled t) all;
  slots = plain-slots (placed e) (map placed list) (map placed list') t removes' is have;
  tables = distinct;
  plans = refl;
  kept = λ ids shared ops alone kept. kept;
}
left-in e (Some table) list list' t is removes' all have distinct =
    let at = stands-at (placed e) table t is (removes'.there (IsSettled t) all) in
    record {
      settled = freed-settled (placed e) table t at.view is at.is at.found (map placed list) (map placed list') removes' all;
      slots = freed-slots (placed e) table t at.view is at.is at.found (map placed list) (map placed list') removes' have;
      tables = tables-with table (freed e.rule.id) t distinct;
      plans = plans-with table (freed e.rule.id) t (λ k v. plan-freed k e.rule.id v);
      kept = λ ids shared ops alone kept. freed-kept (placed e) table t at.view is at.is at.found ids shared ops (alone (record e { table = Some table }) refl) kept;
    }

pub left-none : (list list' : List InEffect) (t : TemplatesView) → list' ≡ list → All (IsSettled t) (map placed list) → HaveSettled (map placed list) t → IsDistinct nat_eq (keys_of t.tables)
    → IsLeft None list' t
left-none list list' t same all have distinct = record {
  settled = subst (λ (l : List InEffect). All (IsSettled t) (map placed l)) (sym same) all;
  slots = subst (λ (l : List InEffect). HaveSettled (map placed l) t) (sym same) have;
  tables = distinct;
  plans = refl;
  kept = λ ids shared ops alone kept. kept;
}

pub left-some : (e : InEffect) (list list' : List InEffect) (t : TemplatesView) → Removes (placed e) (map placed list) (map placed list')
    → All (IsSettled t) (map placed list) → HaveSettled (map placed list) t → IsDistinct nat_eq (keys_of t.tables) → IsLeft (Some e) list' t
left-some e list list' t removes' all have distinct = left-in e e.table list list' t refl removes' all have distinct

-- the entry of an id goes
pub left-without : (id : ℕ) (list : List InEffect) (t : TemplatesView) (o : Option InEffect) (list' : List InEffect) → o ≡ rules.entry_at id list → list' ≡ rules.without id list
    → AreDistinct list → All (IsSettled t) (map placed list) → HaveSettled (map placed list) t → IsDistinct nat_eq (keys_of t.tables) → IsLeft o list' t
left-without id list t None list' found is distinct all have keys = left-none list list' t (is ∙ without-none id list (sym found)) all have keys
left-without id list t (Some e) list' found is distinct all have keys =
    left-some e list list' t (subst (λ (l : List InEffect). Removes (placed e) (map placed list) (map placed l)) (sym is) (removes id list e distinct (sym found))) all have keys

-- and it has the id
pub id-gone : (id : ℕ) (list : List InEffect) (e : InEffect) → Some e ≡ rules.entry_at id list → e.rule.id ≡ id
id-gone id list e found = id-of id list e (sym found)

-- or the first one does
pub left-first : (list : List InEffect) (t : TemplatesView) (o : Option InEffect) (list' : List InEffect) → o ≡ slice_get list 0 → list' ≡ drop 1 list
    → AreDistinct list → All (IsSettled t) (map placed list) → HaveSettled (map placed list) t → IsDistinct nat_eq (keys_of t.tables) → IsLeft o list' t
left-first [] t None list' found is distinct all have keys = left-none [] list' t is all have keys
left-first [] t (Some e) list' found is distinct all have keys = cc
left-first (x ∷ list) t None list' found is distinct all have keys = cc
left-first (x ∷ list) t (Some e) list' found is distinct all have keys =
    let first : e ≡ x = same_Some _ _ found in
    let here : rules.entry_at x.rule.id (x ∷ list) ≡ Some x = ap (λ b. cond b (Some x) (rules.entry_at x.rule.id list)) (eq-eqb x.rule.id x.rule.id refl) in
    let gone : rules.without x.rule.id (x ∷ list) ≡ list
    = ap (λ b. cond (not b) (x ∷ rules.without x.rule.id list) (rules.without x.rule.id list)) (eq-eqb x.rule.id x.rule.id refl) ∙ without-none x.rule.id list distinct.0 in
    subst (λ (y : InEffect). IsLeft (Some y) list' t) (sym first)
    (left-without x.rule.id (x ∷ list) t (Some x) list' (sym here) (is ∙ sym gone) distinct all have keys)

-- held operations of ids that no rule in effect has
others-alone : (e : InEffect) (list : List InEffect) (ops : List Held) → AreOthers (map placed (e ∷ list)) ops → count_by (is_held_rule e.rule.id) ops ≡ 0
others-alone e list ops others =
    let one : cond (nat_eq e.rule.id e.rule.id) 1 0 ≡ 1 = ap {B = ℕ} (λ b. cond b 1 0) (eq-eqb e.rule.id e.rule.id refl) in
    omega (arith, others e.rule.id, count_by-first (is_rule e.rule.id) (placed e) (map placed list), one)

others-left : (e : InEffect) (list : List InEffect) (ops : List Held) → AreOthers (map placed (e ∷ list)) ops → AreOthers (map placed list) ops
others-left e list ops others id = omega (arith, others id, count_by-first (is_rule id) (placed e) (map placed list))

-- what is left behind all entries
pub record AreLeft (list : List InEffect) (t : TemplatesView) : Type 0 where
  pub slots : HaveSettled [] (freed_all list t)
  pub tables : IsDistinct nat_eq (keys_of (freed_all list t).tables)
  pub plans : plans_of (freed_all list t) ≡ plans_of t
  pub kept : (ids : ℕ) (shared : Entries) (ops : List Held) → AreOthers (map placed list) ops → AreKeptFor ids t shared ops → AreKeptFor ids (freed_all list t) shared ops

pub left-all : (list : List InEffect) (t : TemplatesView) → AreDistinct list → All (IsSettled t) (map placed list) → HaveSettled (map placed list) t → IsDistinct nat_eq (keys_of t.tables)
    → AreLeft list t
left-all [] t distinct all have keys = record { slots = have; tables = keys; plans = refl; kept = λ ids shared ops others kept. kept }
left-all (e ∷ list) t distinct all have keys =
    let one = left-first (e ∷ list) t (Some e) list refl refl distinct all have keys in
    let more = left-all list (freed_by (Some e) t) distinct.1 one.settled one.slots one.tables in
    record {
      slots = more.slots;
      tables = more.tables;
      plans = more.plans ∙ one.plans;
      kept = λ ids shared ops others kept.
          more.kept ids shared ops (others-left e list ops others)
          (one.kept ids shared ops (λ x is. subst (λ (y : InEffect). count_by (is_held_rule y.rule.id) ops ≡ 0) (is-some is) (others-alone e list ops others)) kept);
    } where
      is-some : {A : Type 0} {a b : A} → Some a ≡ Some b → a ≡ b
      is-some same = cc
