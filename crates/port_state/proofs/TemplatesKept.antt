-- Templates and tables as they are made, and as they go.
use Rattle.std.proofs.Common.{◌≡◌, ℕ, ◌+◌, ◌++◌, not, nat_lt, is_some, Bool, true, false, cond, nat_eq, map, length, List, [], ◌∷◌, Option, None, Some, refl, sym, ap, ◌∙◌, subst, arith, zero-add}
use Rattle.std.specs.List.{All, IsDistinct, count_by}
use Rattle.std.specs.Map.{keys_of, lookup, remove_entry}
use Rattle.std.specs.Prelude.{Result, Ok, Err, OnOk}
use Rattle.std.specs.Result.{result_err}
use Rattle.std.proofs.lemmas.Bool.{eqb-true, eq-eqb, ltb-false}
use Rattle.std.proofs.lemmas.List.{map-append}
use Rattle.std.proofs.lemmas.Map.{lookup-remove_entry}
use Rattle.std.proofs.lemmas.Map.Keys.{IsDistinct-push, IsDistinct-head, IsDistinct-tail, IsDistinct-cons}
use Rattle.std.proofs.lemmas.Map.Made.{is_some-lookup}
use Rattle.std.specs.List.{AllByRecursion}
use Rattle.std.proofs.lemmas.Cmp.{nat_eq_equiv}
use Rattle.std.proofs.lemmas.List.Elements.{All-nil, All-cons, All-head, All-tail}
use Rattle.flow_rules.specs.RuleView.{RuleView}
use Rattle.flow_rules.specs.declared.fault.Cause.TheVariants as causes
use Rattle.flow_rules.specs.declared.spec.Attr.{Attr}
use Rattle.flow_rules.specs.Faults.{fault_if, first}
use Rattle.object_ids.specs.Ids.{id_for}
use Rattle.indirect_counters.specs.Entries.{Entries, values_in_effect}
use Rattle.template_tables.specs.Refusals.{is_busy, table_end_refusals}
use Rattle.template_tables.specs.Slots.{IsAbove}
use Rattle.template_tables.specs.TableView.{TableView, empty_table}
use Rattle.template_tables.specs.TemplatesView.{TemplatesView, table_of}
use Rattle.port_state.specs.declared.held.Held.{Held}
use Rattle.port_state.specs.declared.held.Held.TheVariants as held
use Rattle.port_state.specs.declared.state.State.TheInside.{Inside}
use Rattle.port_state.specs.Kept.{is_held_in, is_reserved, IsGiven, IsReserved, IsReservedFor, HasReserved, IsHeldIn, AreKeptFor}
use Rattle.port_state.specs.KeptState.{KeptState, placed, plan_of, plans_of, state_in}
use Rattle.port_state.specs.State.{Placed, stands_in, with_templates}
use Rattle.port_state.specs.StateInside.{state_kept, HasSettled, HaveSettled, IsSettled, IsSettledAt, IsSettledIn}
use Rattle.port_state.specs.Tables.{Table, Templates, table_made, table_gone}
use Rattle.port_state.proofs.Parts.{with_parts}
use Rattle.port_state.proofs.Slots.{lookup-last, lookup-pushed, lookup-removed}

pub at-ok : {T E : Type 0} (r : Result T E) (P : Type 0) → result_err r ≡ None → OnOk r P → P
at-ok (Ok x) P none p = p
at-ok (Err e) P none p = cc

pub on-ok : {T E : Type 0} (r : Result T E) (P : Type 0) → P → OnOk r P
on-ok (Ok x) P p = p
on-ok (Err e) P p = tt

-- a state with other templates and tables
pub changed : (s : Inside) (old : KeptState) (new : TemplatesView) (change : Templates → Templates) → state_kept s ≡ old → plans_of new ≡ change (plans_of s.templates)
    → with_parts s (map placed s.rules.list) (values_in_effect s.shared.entries) (plans_of new) ≡ with_templates change (state_in old)
changed s old new change same plans =
    ap (with_parts s (map placed s.rules.list) (values_in_effect s.shared.entries)) plans ∙ ap (λ (k : KeptState). with_templates change (state_in k)) same

-- one goes that may go
pub gone : {E : Type 0} (s : Inside) (old : KeptState) (r : Result Unit E) (new without' : TemplatesView) (change : Templates → Templates) → state_kept s ≡ old → result_err r ≡ None
    → OnOk r (new ≡ without') → plans_of without' ≡ change (plans_of s.templates)
    → with_parts s (map placed s.rules.list) (values_in_effect s.shared.entries) (plans_of new) ≡ with_templates change (state_in old)
gone s old r new without' change same none is plans = changed s old new change same (ap plans_of (at-ok r _ none is) ∙ plans)

-- a lookup behind a new table, and without one
module _ {X : Type 0} where
  pub lookup-more : (q : ℕ) (es : List (ℕ × X)) (e : ℕ × X) → nat_eq q e.0 ≡ false → lookup (nat_eq q) (es ++ e ∷ []) ≡ lookup (nat_eq q) es
  lookup-more q [] e other = ap (λ b. cond b (Some e.1) None) other
  lookup-more q (f ∷ es) e other = ap (cond (nat_eq q f.0) (Some f.1)) (lookup-more q es e other)

-- a new table
module _ (id : ℕ) (view : TableView) (t : TemplatesView) (free : table_of id t ≡ None) (empty : view.slots ≡ []) where
  new_tables : TemplatesView
  new_tables = record { patterns = t.patterns; actions = t.actions; tables = t.tables ++ (id, view) ∷ [] }

  table_of-new : (q : ℕ) → table_of q (record { patterns = t.patterns; actions = t.actions; tables = t.tables ++ (id, view) ∷ [] }) ≡ cond (nat_eq q id) (Some view) (table_of q t)
  table_of-new q = by (nat_eq q id) refl where
    by : (b : Bool) → nat_eq q id ≡ b → lookup (nat_eq q) (t.tables ++ (id, view) ∷ []) ≡ cond b (Some view) (table_of q t)
    by true same = subst (λ k. lookup (nat_eq k) (t.tables ++ (id, view) ∷ []) ≡ Some view) (sym (eqb-true q id same)) (lookup-last id t.tables view free)
    by false other = lookup-more q t.tables (id, view) other

  pub made-settled : (rules : List Placed) → All (IsSettled t) rules → All (IsSettled (record { patterns = t.patterns; actions = t.actions; tables = t.tables ++ (id, view) ∷ [] })) rules
  made-settled [] all = All-nil (IsSettled (record { patterns = t.patterns; actions = t.actions; tables = t.tables ++ (id, view) ∷ [] }))
  made-settled (r ∷ rules) all =
      All-cons (IsSettled (record { patterns = t.patterns; actions = t.actions; tables = t.tables ++ (id, view) ∷ [] })) r rules
      (at r r.table (All-head (IsSettled t) r rules all)) (made-settled rules (All-tail (IsSettled t) r rules all)) where
        found : (rule : RuleView) (k : ℕ) (o : Option TableView) → table_of k t ≡ o → IsSettledIn rule o
            → IsSettledIn rule (table_of k (record { patterns = t.patterns; actions = t.actions; tables = t.tables ++ (id, view) ∷ [] }))
        found rule k None is none = absurd none
        found rule k (Some table) is settled = subst (IsSettledIn rule) (sym (lookup-pushed k t.tables (id, view) table is)) settled

        at : (x : Placed) (o : Option ℕ) → IsSettledAt t x.rule o → IsSettledAt (record { patterns = t.patterns; actions = t.actions; tables = t.tables ++ (id, view) ∷ [] }) x.rule o
        at x None is = tt
        at x (Some k) is = found x.rule k (table_of k t) refl is

  pub made-slots : (rules : List Placed) → HaveSettled rules t → HaveSettled rules (record { patterns = t.patterns; actions = t.actions; tables = t.tables ++ (id, view) ∷ [] })
  made-slots rules have q = subst (HasSettled rules q) (sym (table_of-new q)) (by (nat_eq q id) refl) where
    none : count_by (stands_in id) rules ≡ 0
    none = subst (HasSettled rules id) free (have id)

    by : (b : Bool) → nat_eq q id ≡ b → HasSettled rules q (cond b (Some view) (table_of q t))
    by true same = subst (λ k. HasSettled rules k (Some view)) (sym (eqb-true q id same)) (ap length empty ∙ sym (ap (λ n. n + count_by is_reserved view.slots) none ∙ zero-add _ ∙ ap (count_by is_reserved) empty))
    by false other = have q

  pub made-kept : (ids : ℕ) (shared : Entries) (ops : List Held) → view.greatest ≡ None → AreKeptFor ids t shared ops
      → AreKeptFor ids (record { patterns = t.patterns; actions = t.actions; tables = t.tables ++ (id, view) ∷ [] }) shared ops
  made-kept ids shared ops fresh kept = record { tables = tables; each = each ops kept.each; used = kept.used; number = kept.number } where
    none : count_by (is_held_in id) ops ≡ 0
    none = subst (HasReserved ids ops id) free (kept.tables id)

    tables : (q : ℕ) → HasReserved ids ops q (table_of q (record { patterns = t.patterns; actions = t.actions; tables = t.tables ++ (id, view) ∷ [] }))
    tables q = subst (HasReserved ids ops q) (sym (table_of-new q)) (by (nat_eq q id) refl) where
      here : IsReservedFor ids id ops view
      here = record {
        number = ap (count_by is_reserved) empty ∙ sym none;
        given = subst (All (IsGiven ids)) (sym empty) (All-nil (IsGiven ids));
        above = subst (IsAbove ids) (sym fresh) tt;
      }

      by : (b : Bool) → nat_eq q id ≡ b → HasReserved ids ops q (cond b (Some view) (table_of q t))
      by true same = subst (λ k. IsReservedFor ids k ops view) (sym (eqb-true q id same)) here
      by false other = kept.tables q

    found : (rule : RuleView) (k : ℕ) (o : Option TableView) → table_of k t ≡ o → IsReserved rule.id o
        → IsReserved rule.id (table_of k (record { patterns = t.patterns; actions = t.actions; tables = t.tables ++ (id, view) ∷ [] }))
    found rule k None is bad = absurd bad
    found rule k (Some table) is reserved = subst (IsReserved rule.id) (sym (lookup-pushed k t.tables (id, view) table is)) reserved

    at : (op : Held) → IsHeldIn t shared op → IsHeldIn (record { patterns = t.patterns; actions = t.actions; tables = t.tables ++ (id, view) ∷ [] }) shared op
    at (held.RuleCreated rule k) is = found rule k (table_of k t) refl is
    at (held.RuleDestroyed q) is = tt
    at (held.SharedCreated q value) is = is
    at (held.SharedUpdated q value) is = tt
    at (held.SharedDestroyed q) is = tt

    each : (xs : List Held) → All (IsHeldIn t shared) xs → All (IsHeldIn (record { patterns = t.patterns; actions = t.actions; tables = t.tables ++ (id, view) ∷ [] }) shared) xs
    each [] all = All-nil (IsHeldIn (record { patterns = t.patterns; actions = t.actions; tables = t.tables ++ (id, view) ∷ [] }) shared)
    each (x ∷ xs) all =
        All-cons (IsHeldIn (record { patterns = t.patterns; actions = t.actions; tables = t.tables ++ (id, view) ∷ [] }) shared) x xs
        (at x (All-head (IsHeldIn t shared) x xs all)) (each xs (All-tail (IsHeldIn t shared) x xs all))

-- a lookup behind one that is gone
lookup-gone : {X : Type 0} (id : ℕ) (es : List (ℕ × X)) → IsDistinct nat_eq (keys_of es) → lookup (nat_eq id) (remove_entry (nat_eq id) es) ≡ None
lookup-gone id es distinct =
    lookup-remove_entry nat_eq_equiv (nat_eq id) (λ x y same. ap (λ k. nat_eq k y) (eqb-true id x same)) id es distinct
    ∙ ap (λ b. cond b None (lookup (nat_eq id) es)) (eq-eqb id id refl)

-- a table without slots goes
module _ (id : ℕ) (view : TableView) (t : TemplatesView) (is : table_of id t ≡ Some view) (empty : view.slots ≡ []) (distinct : IsDistinct nat_eq (keys_of t.tables)) where
  table_of-gone : (q : ℕ) → table_of q (record { patterns = t.patterns; actions = t.actions; tables = remove_entry (nat_eq id) t.tables }) ≡ cond (nat_eq q id) None (table_of q t)
  table_of-gone q = by (nat_eq q id) refl where
    by : (b : Bool) → nat_eq q id ≡ b → lookup (nat_eq q) (remove_entry (nat_eq id) t.tables) ≡ cond b None (table_of q t)
    by true same = subst (λ k. lookup (nat_eq k) (remove_entry (nat_eq id) t.tables) ≡ None) (sym (eqb-true q id same)) (lookup-gone id t.tables distinct)
    by false other = lookup-removed id q t.tables other

  -- nothing is found in it
  nothing : {X : Type 0} (q : ℕ) (o : Option RuleView) → lookup (nat_eq q) view.slots ≡ Some o → X
  nothing q o found = none (sym (ap (lookup (nat_eq q)) empty) ∙ found) where
    none : {X : Type 0} → None ≡ Some o → X
    none bad = cc

  gone-at : (rule : RuleView) (k : ℕ) (b : Bool) → nat_eq k id ≡ b → IsSettledIn rule (table_of k t) → IsSettledIn rule (cond b None (table_of k t))
  gone-at rule k true same settled = nothing rule.id (Some rule) (subst (λ o. IsSettledIn rule o) is (subst (λ j. IsSettledIn rule (table_of j t)) (eqb-true k id same) settled))
  gone-at rule k false other settled = settled

  pub gone-settled : (rules : List Placed) → All (IsSettled t) rules → All (IsSettled (record { patterns = t.patterns; actions = t.actions; tables = remove_entry (nat_eq id) t.tables })) rules
  gone-settled [] all = All-nil (IsSettled (record { patterns = t.patterns; actions = t.actions; tables = remove_entry (nat_eq id) t.tables }))
  gone-settled (r ∷ rules) all =
      All-cons (IsSettled (record { patterns = t.patterns; actions = t.actions; tables = remove_entry (nat_eq id) t.tables })) r rules
      (at r r.table (All-head (IsSettled t) r rules all)) (gone-settled rules (All-tail (IsSettled t) r rules all)) where
        at : (x : Placed) (o : Option ℕ) → IsSettledAt t x.rule o → IsSettledAt (record { patterns = t.patterns; actions = t.actions; tables = remove_entry (nat_eq id) t.tables }) x.rule o
        at x None settled = tt
        at x (Some k) settled = subst (IsSettledIn x.rule) (sym (table_of-gone k)) (gone-at x.rule k (nat_eq k id) refl settled)

  pub gone-slots : (rules : List Placed) → HaveSettled rules t → HaveSettled rules (record { patterns = t.patterns; actions = t.actions; tables = remove_entry (nat_eq id) t.tables })
  gone-slots rules have q = subst (HasSettled rules q) (sym (table_of-gone q)) (by (nat_eq q id) refl) where
    none : count_by (stands_in id) rules ≡ 0
    none = omega (arith, subst (HasSettled rules id) is (have id), ap length empty)

    by : (b : Bool) → nat_eq q id ≡ b → HasSettled rules q (cond b None (table_of q t))
    by true same = subst (λ k. count_by (stands_in k) rules ≡ 0) (sym (eqb-true q id same)) none
    by false other = have q

  pub gone-kept : (ids : ℕ) (shared : Entries) (ops : List Held) → AreKeptFor ids t shared ops
      → AreKeptFor ids (record { patterns = t.patterns; actions = t.actions; tables = remove_entry (nat_eq id) t.tables }) shared ops
  gone-kept ids shared ops kept = record { tables = tables; each = each ops kept.each; used = kept.used; number = kept.number } where
    none : count_by (is_held_in id) ops ≡ 0
    none = sym (subst (HasReserved ids ops id) is (kept.tables id)).number ∙ ap (count_by is_reserved) empty

    tables : (q : ℕ) → HasReserved ids ops q (table_of q (record { patterns = t.patterns; actions = t.actions; tables = remove_entry (nat_eq id) t.tables }))
    tables q = subst (HasReserved ids ops q) (sym (table_of-gone q)) (by (nat_eq q id) refl) where
      by : (b : Bool) → nat_eq q id ≡ b → HasReserved ids ops q (cond b None (table_of q t))
      by true same = subst (λ k. count_by (is_held_in k) ops ≡ 0) (sym (eqb-true q id same)) none
      by false other = kept.tables q

    reserved : (rule : RuleView) (k : ℕ) (b : Bool) → nat_eq k id ≡ b → IsReserved rule.id (table_of k t) → IsReserved rule.id (cond b None (table_of k t))
    reserved rule k true same found = nothing rule.id None (subst (λ o. IsReserved rule.id o) is (subst (λ j. IsReserved rule.id (table_of j t)) (eqb-true k id same) found))
    reserved rule k false other found = found

    at : (op : Held) → IsHeldIn t shared op → IsHeldIn (record { patterns = t.patterns; actions = t.actions; tables = remove_entry (nat_eq id) t.tables }) shared op
    at (held.RuleCreated rule k) found = subst (IsReserved rule.id) (sym (table_of-gone k)) (reserved rule k (nat_eq k id) refl found)
    at (held.RuleDestroyed q) found = tt
    at (held.SharedCreated q value) found = found
    at (held.SharedUpdated q value) found = tt
    at (held.SharedDestroyed q) found = tt

    each : (xs : List Held) → All (IsHeldIn t shared) xs → All (IsHeldIn (record { patterns = t.patterns; actions = t.actions; tables = remove_entry (nat_eq id) t.tables }) shared) xs
    each [] all = All-nil (IsHeldIn (record { patterns = t.patterns; actions = t.actions; tables = remove_entry (nat_eq id) t.tables }) shared)
    each (x ∷ xs) all =
        All-cons (IsHeldIn (record { patterns = t.patterns; actions = t.actions; tables = remove_entry (nat_eq id) t.tables }) shared) x xs
        (at x (All-head (IsHeldIn t shared) x xs all)) (each xs (All-tail (IsHeldIn t shared) x xs all))

-- the plans of tables, as one is made and as one goes
pub plans-made : (t : TemplatesView) (id : Option ℕ) (attr : Attr) (n : ℕ) (patterns actions : List ℕ) → id_for id t.tables ≡ id_for id (map plan_of t.tables)
    → plans_of (record t { tables = t.tables ++ (id_for id t.tables, empty_table attr n patterns actions) ∷ [] })
    ≡ table_made id (record { attr = attr; patterns = patterns; actions = actions; rules_number = n }) (plans_of t)
plans-made t id attr n patterns actions same =
    let with_tables : List (ℕ × Table) → Templates = λ tables. record { patterns = t.patterns; actions = t.actions; tables = tables } in
    let table : Table = record { attr = attr; patterns = patterns; actions = actions; rules_number = n } in
    ap with_tables (map-append plan_of t.tables ((id_for id t.tables, empty_table attr n patterns actions) ∷ []))
    ∙ ap (λ k. with_tables (map plan_of t.tables ++ (k, table) ∷ [])) same

tables-gone : (id : ℕ) (tables : List (ℕ × TableView)) → map plan_of (remove_entry (nat_eq id) tables) ≡ remove_entry (nat_eq id) (map plan_of tables)
tables-gone id [] = refl
tables-gone id (e ∷ tables) = by (nat_eq id e.0) (tables-gone id tables) where
  by : (b : Bool) → map plan_of (remove_entry (nat_eq id) tables) ≡ remove_entry (nat_eq id) (map plan_of tables)
      → map plan_of (cond b tables (e ∷ remove_entry (nat_eq id) tables)) ≡ cond b (map plan_of tables) (plan_of e ∷ remove_entry (nat_eq id) (map plan_of tables))
  by true behind = refl
  by false behind = ap (λ es. plan_of e ∷ es) behind

pub plans-gone : (t : TemplatesView) (id : ℕ) → plans_of (record t { tables = remove_entry (nat_eq id) t.tables }) ≡ table_gone id (plans_of t)
plans-gone t id = ap (λ (tables : List (ℕ × Table)). record { patterns = t.patterns; actions = t.actions; tables = tables }) (tables-gone id t.tables)

-- a table may go where it is there and no slot of it is taken
pub record MayEnd (id : ℕ) (t : TemplatesView) : Type 0 where
  pub view : TableView
  pub is : table_of id t ≡ Some view
  pub empty : view.slots ≡ []

pub may-end : (id : ℕ) (t : TemplatesView) → first (table_end_refusals t id) ≡ None → MayEnd id t
may-end id t due = by (table_of id t) refl due where
  clear : (b : Bool) → first (fault_if b causes.Busy 0) ≡ None → b ≡ false
  clear true bad = cc
  clear false bad = refl

  nothing-in : {A : Type 0} (xs : List A) → length xs ≡ 0 → xs ≡ []
  nothing-in [] is = refl
  nothing-in (x ∷ xs) is = absurd (omega (arith, is))

  none : (xs : List (ℕ × Option RuleView)) → first (fault_if (nat_lt 0 (length xs)) causes.Busy 0) ≡ None → xs ≡ []
  none xs bad = nothing-in xs (omega (arith, ltb-false 0 (length xs) (clear (nat_lt 0 (length xs)) bad)))

  by : (o : Option TableView) → table_of id t ≡ o → first (fault_if (not (is_some o)) causes.NoObject 0 ++ fault_if (is_busy o) causes.Busy 0) ≡ None → MayEnd id t
  by None is bad = cc
  by (Some view) is bad = record { view = view; is = is; empty = none view.slots bad }

-- the ids of tables, as one is made and as one goes
pub made-tables : (id : ℕ) (view : TableView) (tables : List (ℕ × TableView)) → lookup (nat_eq id) tables ≡ None → IsDistinct nat_eq (keys_of tables) → IsDistinct nat_eq (keys_of (tables ++ (id, view) ∷ []))
made-tables id view tables free distinct =
    subst (λ (keys : List ℕ). IsDistinct nat_eq keys) (sym (map-append (λ (e : ℕ × TableView). e.0) tables ((id, view) ∷ [])))
    (IsDistinct-push nat_eq_equiv (keys_of tables) id distinct (sym (is_some-lookup (nat_eq id) tables) ∙ ap is_some free))

all-gone : (P : ℕ → Type 0) (id : ℕ) (tables : List (ℕ × TableView)) → AllByRecursion P (keys_of tables) → AllByRecursion P (keys_of (remove_entry (nat_eq id) tables))
all-gone P id [] all = all
all-gone P id (e ∷ tables) all = by (nat_eq id e.0) (all-gone P id tables all.1) where
  by : (b : Bool) → AllByRecursion P (keys_of (remove_entry (nat_eq id) tables)) → AllByRecursion P (keys_of (cond b tables (e ∷ remove_entry (nat_eq id) tables)))
  by true more = all.1
  by false more = (all.0, more)

pub gone-tables : (id : ℕ) (tables : List (ℕ × TableView)) → IsDistinct nat_eq (keys_of tables) → IsDistinct nat_eq (keys_of (remove_entry (nat_eq id) tables))
gone-tables id [] distinct = distinct
gone-tables id (e ∷ tables) distinct =
    by (nat_eq id e.0) (IsDistinct-tail nat_eq e.0 (keys_of tables) distinct) (gone-tables id tables (IsDistinct-tail nat_eq e.0 (keys_of tables) distinct)) where
      by : (b : Bool) → IsDistinct nat_eq (keys_of tables) → IsDistinct nat_eq (keys_of (remove_entry (nat_eq id) tables))
          → IsDistinct nat_eq (keys_of (cond b tables (e ∷ remove_entry (nat_eq id) tables)))
      by true rest more = rest
      by false rest more =
          IsDistinct-cons nat_eq e.0 (keys_of (remove_entry (nat_eq id) tables))
          (all-gone (λ y. nat_eq e.0 y ≡ false) id tables (IsDistinct-head nat_eq e.0 (keys_of tables) distinct)) more
