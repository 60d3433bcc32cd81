-- The slots of tables: as a rule takes effect in its table, as it goes, and as a slot is reserved.
use Rattle.std.proofs.Common.{◌≡◌, ℕ, suc, ◌+◌, ◌++◌, ◌<◌, not, Bool, true, false, cond, nat_eq, length, is_some, List, [], ◌∷◌, Option, None, Some, refl, sym, ap, ◌∙◌, subst, arith}
use Rattle.std.specs.List.{All, count_by}
use Rattle.std.specs.Map.{lookup, remove_entry, set_value}
use Rattle.std.specs.Option.{option_map}
use Rattle.std.proofs.lemmas.Bool.{eqb-true, eq-eqb}
use Rattle.std.proofs.lemmas.List.Sums.{sum_by-cons}
use Rattle.std.proofs.lemmas.List.Elements.{All-cons, All-head, All-tail}
use Rattle.std.proofs.lemmas.Option.{same_Some}
use Rattle.flow_rules.specs.RuleView.{RuleView}
use Rattle.template_tables.specs.TableView.{TableView}
use Rattle.template_tables.specs.TemplatesView.{TemplatesView, table_of, changed_if, with_table}
use Rattle.template_tables.specs.Slots.{settled, settled_in, rule_of_slot, freed}
use Rattle.port_state.specs.Kept.{is_reserved, IsGiven}

-- keys that differ
keys-apart : (id q k : ℕ) → nat_eq q id ≡ false → nat_eq id k ≡ true → nat_eq q k ≡ false
keys-apart id q k other same = subst (λ n. nat_eq q n ≡ false) (eqb-true id k same) other

-- a value that was written is found, and others are as they were
module _ {X : Type 0} where
  pub lookup-written : (id : ℕ) (es : List (ℕ × X)) (old new : X) → lookup (nat_eq id) es ≡ Some old → lookup (nat_eq id) (set_value (nat_eq id) es new) ≡ Some new
  lookup-written id [] old new found = cc
  lookup-written id (e ∷ es) old new found = by (nat_eq id e.0) refl found (lookup-written id es old new) where
    by : (b : Bool) → nat_eq id e.0 ≡ b → cond b (Some e.1) (lookup (nat_eq id) es) ≡ Some old
        → (lookup (nat_eq id) es ≡ Some old → lookup (nat_eq id) (set_value (nat_eq id) es new) ≡ Some new)
        → lookup (nat_eq id) (cond b ((e.0, new) ∷ es) (e ∷ set_value (nat_eq id) es new)) ≡ Some new
    by true same at more = ap (λ b. cond b (Some new) (lookup (nat_eq id) es)) same
    by false other at more = ap (λ b. cond b (Some e.1) (lookup (nat_eq id) (set_value (nat_eq id) es new))) other ∙ more at

  pub lookup-others : (id q : ℕ) (es : List (ℕ × X)) (new : X) → nat_eq q id ≡ false → lookup (nat_eq q) (set_value (nat_eq id) es new) ≡ lookup (nat_eq q) es
  lookup-others id q [] new other = refl
  lookup-others id q (e ∷ es) new other = by (nat_eq id e.0) refl (lookup-others id q es new other) where
    by : (b : Bool) → nat_eq id e.0 ≡ b → lookup (nat_eq q) (set_value (nat_eq id) es new) ≡ lookup (nat_eq q) es
        → lookup (nat_eq q) (cond b ((e.0, new) ∷ es) (e ∷ set_value (nat_eq id) es new)) ≡ cond (nat_eq q e.0) (Some e.1) (lookup (nat_eq q) es)
    by true same more =
        ap (λ b. cond b (Some new) (lookup (nat_eq q) es)) (keys-apart id q e.0 other same)
        ∙ sym (ap (λ b. cond b (Some e.1) (lookup (nat_eq q) es)) (keys-apart id q e.0 other same))
    by false n more = ap (cond (nat_eq q e.0) (Some e.1)) more

  pub lookup-removed : (id q : ℕ) (es : List (ℕ × X)) → nat_eq q id ≡ false → lookup (nat_eq q) (remove_entry (nat_eq id) es) ≡ lookup (nat_eq q) es
  lookup-removed id q [] other = refl
  lookup-removed id q (e ∷ es) other = by (nat_eq id e.0) refl (lookup-removed id q es other) where
    by : (b : Bool) → nat_eq id e.0 ≡ b → lookup (nat_eq q) (remove_entry (nat_eq id) es) ≡ lookup (nat_eq q) es
        → lookup (nat_eq q) (cond b es (e ∷ remove_entry (nat_eq id) es)) ≡ cond (nat_eq q e.0) (Some e.1) (lookup (nat_eq q) es)
    by true same more = sym (ap (λ b. cond b (Some e.1) (lookup (nat_eq q) es)) (keys-apart id q e.0 other same))
    by false n more = ap (cond (nat_eq q e.0) (Some e.1)) more

  pub lookup-pushed : (q : ℕ) (es : List (ℕ × X)) (e : ℕ × X) (x : X) → lookup (nat_eq q) es ≡ Some x → lookup (nat_eq q) (es ++ e ∷ []) ≡ Some x
  lookup-pushed q [] e x found = cc
  lookup-pushed q (f ∷ es) e x found = by (nat_eq q f.0) found (lookup-pushed q es e x) where
    by : (b : Bool) → cond b (Some f.1) (lookup (nat_eq q) es) ≡ Some x → (lookup (nat_eq q) es ≡ Some x → lookup (nat_eq q) (es ++ e ∷ []) ≡ Some x)
        → cond b (Some f.1) (lookup (nat_eq q) (es ++ e ∷ [])) ≡ Some x
    by true at more = at
    by false at more = more at

  pub lookup-last : (q : ℕ) (es : List (ℕ × X)) (x : X) → lookup (nat_eq q) es ≡ None → lookup (nat_eq q) (es ++ (q, x) ∷ []) ≡ Some x
  lookup-last q [] x none = ap (λ b. cond b (Some x) None) (eq-eqb q q refl)
  lookup-last q (f ∷ es) x none = by (nat_eq q f.0) none (lookup-last q es x) where
    by : (b : Bool) → cond b (Some f.1) (lookup (nat_eq q) es) ≡ None → (lookup (nat_eq q) es ≡ None → lookup (nat_eq q) (es ++ (q, x) ∷ []) ≡ Some x)
        → cond b (Some f.1) (lookup (nat_eq q) (es ++ (q, x) ∷ [])) ≡ Some x
    by true at more = cc
    by false at more = more at

  length-written : (id : ℕ) (es : List (ℕ × X)) (new : X) → length (set_value (nat_eq id) es new) ≡ length es
  length-written id [] new = refl
  length-written id (e ∷ es) new = by (nat_eq id e.0) (length-written id es new) where
    by : (b : Bool) → length (set_value (nat_eq id) es new) ≡ length es → length (cond b ((e.0, new) ∷ es) (e ∷ set_value (nat_eq id) es new)) ≡ suc (length es)
    by true more = refl
    by false more = ap suc more

  length-removed : (id : ℕ) (es : List (ℕ × X)) (x : X) → lookup (nat_eq id) es ≡ Some x → length (remove_entry (nat_eq id) es) + 1 ≡ length es
  length-removed id [] x found = cc
  length-removed id (e ∷ es) x found = by (nat_eq id e.0) found (length-removed id es x) where
    by : (b : Bool) → cond b (Some e.1) (lookup (nat_eq id) es) ≡ Some x → (lookup (nat_eq id) es ≡ Some x → length (remove_entry (nat_eq id) es) + 1 ≡ length es)
        → length (cond b es (e ∷ remove_entry (nat_eq id) es)) + 1 ≡ suc (length es)
    by true at more = omega arith
    by false at more = omega (arith, more at)

  -- what holds of all entries by their ids holds of those that are left
  pub All-keys-written : (P : ℕ → Type 0) (id : ℕ) (es : List (ℕ × X)) (new : X) → All (λ (e : ℕ × X). P e.0) es → All (λ (e : ℕ × X). P e.0) (set_value (nat_eq id) es new)
  All-keys-written P id [] new all = all
  All-keys-written P id (e ∷ es) new all =
      by (nat_eq id e.0) (All-keys-written P id es new (All-tail (λ (x : ℕ × X). P x.0) e es all)) where
        by : (b : Bool) → All (λ (x : ℕ × X). P x.0) (set_value (nat_eq id) es new) → All (λ (x : ℕ × X). P x.0) (cond b ((e.0, new) ∷ es) (e ∷ set_value (nat_eq id) es new))
        by true behind = All-cons (λ (x : ℕ × X). P x.0) (e.0, new) es (All-head (λ (x : ℕ × X). P x.0) e es all) (All-tail (λ (x : ℕ × X). P x.0) e es all)
        by false behind = All-cons (λ (x : ℕ × X). P x.0) e (set_value (nat_eq id) es new) (All-head (λ (x : ℕ × X). P x.0) e es all) behind

  pub All-removed : (P : ℕ × X → Type 0) (id : ℕ) (es : List (ℕ × X)) → All P es → All P (remove_entry (nat_eq id) es)
  All-removed P id [] all = all
  All-removed P id (e ∷ es) all = by (nat_eq id e.0) (All-removed P id es (All-tail P e es all)) where
    by : (b : Bool) → All P (remove_entry (nat_eq id) es) → All P (cond b es (e ∷ remove_entry (nat_eq id) es))
    by true behind = All-tail P e es all
    by false behind = All-cons P e (remove_entry (nat_eq id) es) (All-head P e es all) behind

  -- an id that no entry has
  pub none-above : (ids : ℕ) (es : List (ℕ × X)) → All (λ (e : ℕ × X). e.0 < ids) es → lookup (nat_eq ids) es ≡ None
  none-above ids [] all = refl
  none-above ids (e ∷ es) all = by (nat_eq ids e.0) refl (none-above ids es (All-tail (λ (x : ℕ × X). x.0 < ids) e es all)) where
    by : (b : Bool) → nat_eq ids e.0 ≡ b → lookup (nat_eq ids) es ≡ None → cond b (Some e.1) (lookup (nat_eq ids) es) ≡ None
    by true same behind = absurd (omega (arith, eqb-true ids e.0 same, All-head (λ (x : ℕ × X). x.0 < ids) e es all))
    by false other behind = behind

-- the table of each id behind a change of one
module _ (id : ℕ) (change : TableView → TableView) (t : TemplatesView) where
  pub table_of-with : (q : ℕ) → table_of q (with_table id change t) ≡ cond (nat_eq q id) (option_map change (table_of q t)) (table_of q t)
  table_of-with q = by (table_of id t) refl where
    none : (b : Bool) → nat_eq q id ≡ b → table_of id t ≡ None → table_of q t ≡ cond b (option_map change (table_of q t)) (table_of q t)
    none false other found = refl
    none true same found =
        let here : table_of q t ≡ None = subst (λ k. table_of k t ≡ None) (sym (eqb-true q id same)) found in
        here ∙ sym (ap (option_map change) here)

    some : (table : TableView) (b : Bool) → nat_eq q id ≡ b → table_of id t ≡ Some table
        → lookup (nat_eq q) (set_value (nat_eq id) t.tables (change table)) ≡ cond b (option_map change (table_of q t)) (table_of q t)
    some table false other found = lookup-others id q t.tables (change table) other
    some table true same found =
        let here : table_of q t ≡ Some table = subst (λ k. table_of k t ≡ Some table) (sym (eqb-true q id same)) found in
        subst (λ k. lookup (nat_eq q) (set_value (nat_eq k) t.tables (change table)) ≡ Some (change table)) (eqb-true q id same)
        (lookup-written q t.tables table (change table) here)
        ∙ sym (ap (option_map change) here)

    by : (o : Option TableView) → table_of id t ≡ o → table_of q (changed_if id change t o) ≡ cond (nat_eq q id) (option_map change (table_of q t)) (table_of q t)
    by None found = none (nat_eq q id) refl found
    by (Some table) found = some table (nat_eq q id) refl found

  -- what is said of the table of each id is said of the one that is changed, and of the others as they were
  pub have-with : (P : ℕ → Option TableView → Type 0) → ((q : ℕ) → nat_eq q id ≡ false → P q (table_of q t)) → P id (option_map change (table_of id t))
      → (q : ℕ) → P q (table_of q (with_table id change t))
  have-with P others here q = subst (P q) (sym (table_of-with q)) (by (nat_eq q id) refl) where
    by : (b : Bool) → nat_eq q id ≡ b → P q (cond b (option_map change (table_of q t)) (table_of q t))
    by true same = subst (λ k. P k (option_map change (table_of k t))) (sym (eqb-true q id same)) here
    by false other = others q other

split : (x : ℕ × Option RuleView) (more : List (ℕ × Option RuleView)) → count_by is_reserved (x ∷ more) ≡ cond (is_reserved x) 1 0 + count_by is_reserved more
split x more = sum_by-cons (λ y. cond (is_reserved y) 1 0) x more

-- as a slot is settled, one fewer is reserved
reserved-settled : (id : ℕ) (rule : RuleView) (slots : List (ℕ × Option RuleView)) → lookup (nat_eq id) slots ≡ Some None
    → count_by is_reserved (set_value (nat_eq id) slots (Some rule)) + 1 ≡ count_by is_reserved slots
reserved-settled id rule [] found = cc
reserved-settled id rule (e ∷ slots) found = by (nat_eq id e.0) found (reserved-settled id rule slots) where
  by : (b : Bool) → cond b (Some e.1) (lookup (nat_eq id) slots) ≡ Some None
      → (lookup (nat_eq id) slots ≡ Some None → count_by is_reserved (set_value (nat_eq id) slots (Some rule)) + 1 ≡ count_by is_reserved slots)
      → count_by is_reserved (cond b ((e.0, Some rule) ∷ slots) (e ∷ set_value (nat_eq id) slots (Some rule))) + 1 ≡ count_by is_reserved (e ∷ slots)
  by true at more =
      let one : cond (is_reserved e) 1 0 ≡ 1 = ap {B = ℕ} (λ (o : Option RuleView). cond (not (is_some o)) 1 0) (same_Some _ _ at) in
      omega (arith, split (e.0, Some rule) slots, split e slots, one)
  by false at more =
      omega (arith, more at, split e (set_value (nat_eq id) slots (Some rule)), split e slots)

-- as a settled slot is free again, as many are reserved as before
reserved-freed : (id : ℕ) (rule : RuleView) (slots : List (ℕ × Option RuleView)) → lookup (nat_eq id) slots ≡ Some (Some rule)
    → count_by is_reserved (remove_entry (nat_eq id) slots) ≡ count_by is_reserved slots
reserved-freed id rule [] found = refl
reserved-freed id rule (e ∷ slots) found = by (nat_eq id e.0) found (reserved-freed id rule slots) where
  by : (b : Bool) → cond b (Some e.1) (lookup (nat_eq id) slots) ≡ Some (Some rule)
      → (lookup (nat_eq id) slots ≡ Some (Some rule) → count_by is_reserved (remove_entry (nat_eq id) slots) ≡ count_by is_reserved slots)
      → count_by is_reserved (cond b slots (e ∷ remove_entry (nat_eq id) slots)) ≡ count_by is_reserved (e ∷ slots)
  by true at more =
      let none : cond (is_reserved e) 1 0 ≡ 0 = ap {B = ℕ} (λ (o : Option RuleView). cond (not (is_some o)) 1 0) (same_Some _ _ at) in
      omega (arith, split e slots, none)
  by false at more = omega (arith, more at, split e (remove_entry (nat_eq id) slots), split e slots)

-- a table whose slot of an id is settled, or free again
pub record IsSettling (rule : RuleView) (table : TableView) : Type 0 where
  pub length_is : length (settled rule table).slots ≡ length table.slots
  pub reserved_is : count_by is_reserved (settled rule table).slots + 1 ≡ count_by is_reserved table.slots
  pub here : lookup (nat_eq rule.id) (settled rule table).slots ≡ Some (Some rule)

pub settling : (rule : RuleView) (table : TableView) → lookup (nat_eq rule.id) table.slots ≡ Some None → IsSettling rule table
settling rule table found = record {
  length_is = length-written rule.id table.slots (Some rule);
  reserved_is = reserved-settled rule.id rule table.slots found;
  here = lookup-written rule.id table.slots None (Some rule) found;
}

pub record IsFreeing (id : ℕ) (table : TableView) : Type 0 where
  pub length_is : length (freed id table).slots + 1 ≡ length table.slots
  pub reserved_is : count_by is_reserved (freed id table).slots ≡ count_by is_reserved table.slots

freed-is : (id : ℕ) (rule : RuleView) (table : TableView) → lookup (nat_eq id) table.slots ≡ Some (Some rule)
    → freed id table ≡ record table { slots = remove_entry (nat_eq id) table.slots }
freed-is id rule table found = ap (λ o. cond (is_some (rule_of_slot o)) (record table { slots = remove_entry (nat_eq id) table.slots }) table) found

pub freeing : (id : ℕ) (rule : RuleView) (table : TableView) → lookup (nat_eq id) table.slots ≡ Some (Some rule) → IsFreeing id table
freeing id rule table found =
    let is = freed-is id rule table found in
    record {
      length_is = ap (λ (t : TableView). length t.slots + 1) is ∙ length-removed id table.slots (Some rule) found;
      reserved_is = ap (λ (t : TableView). count_by is_reserved t.slots) is ∙ reserved-freed id rule table.slots found;
    }

-- other slots are as they were
pub freed-others : (id q : ℕ) (table : TableView) → nat_eq q id ≡ false → lookup (nat_eq q) (freed id table).slots ≡ lookup (nat_eq q) table.slots
freed-others id q table other = by (is_some (settled_in id table)) where
  by : (b : Bool) → lookup (nat_eq q) (cond b (record table { slots = remove_entry (nat_eq id) table.slots }) table).slots ≡ lookup (nat_eq q) table.slots
  by true = lookup-removed id q table.slots other
  by false = refl

pub freed-given : (ids id : ℕ) (table : TableView) → All (IsGiven ids) table.slots → All (IsGiven ids) (freed id table).slots
freed-given ids id table all = by (is_some (settled_in id table)) where
  by : (b : Bool) → All (IsGiven ids) (cond b (record table { slots = remove_entry (nat_eq id) table.slots }) table).slots
  by true = All-removed (IsGiven ids) id table.slots all
  by false = all

pub freed-greatest : (id : ℕ) (table : TableView) → (freed id table).greatest ≡ table.greatest
freed-greatest id table = by (is_some (settled_in id table)) where
  by : (b : Bool) → (cond b (record table { slots = remove_entry (nat_eq id) table.slots }) table).greatest ≡ table.greatest
  by true = refl
  by false = refl
