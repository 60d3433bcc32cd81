-- The tables of a state behind a change of slots.
use Rattle.std.proofs.Common.{◌≡◌, ℕ, Bool, true, false, cond, nat_eq, map, List, [], ◌∷◌, Option, None, Some, refl, sym, ap, ◌∙◌, subst}
use Rattle.std.specs.List.{IsDistinct}
use Rattle.std.specs.Map.{keys_of, lookup, set_value}
use Rattle.std.proofs.lemmas.Option.{same_Some}
use Rattle.template_tables.specs.TableView.{TableView}
use Rattle.template_tables.specs.TemplatesView.{TemplatesView, table_of, changed_if, with_table}
use Rattle.port_state.specs.Tables.{Table}
use Rattle.port_state.specs.KeptState.{plan_of, plans_of}

-- a change that leaves the plan of a table
abbrev pub IsOfSlots : (TableView → TableView) → Type 0
IsOfSlots change = (k : ℕ) (table : TableView) → plan_of (k, change table) ≡ plan_of (k, table)

written : (id : ℕ) (tables : List (ℕ × TableView)) (old new : TableView) → lookup (nat_eq id) tables ≡ Some old → ((k : ℕ) → plan_of (k, new) ≡ plan_of (k, old))
    → map plan_of (set_value (nat_eq id) tables new) ≡ map plan_of tables
written id [] old new found same = refl
written id (e ∷ tables) old new found same = by (nat_eq id e.0) found (λ at. written id tables old new at same) where
  by : (b : Bool) → cond b (Some e.1) (lookup (nat_eq id) tables) ≡ Some old → (lookup (nat_eq id) tables ≡ Some old → map plan_of (set_value (nat_eq id) tables new) ≡ map plan_of tables)
      → map plan_of (cond b ((e.0, new) ∷ tables) (e ∷ set_value (nat_eq id) tables new)) ≡ plan_of e ∷ map plan_of tables
  by true at more = ap (λ p. p ∷ map plan_of tables) (same e.0 ∙ ap (λ (v : TableView). plan_of (e.0, v)) (sym (same_Some _ _ at)))
  by false at more = ap (λ ps. plan_of e ∷ ps) (more at)

pub plans-with : (id : ℕ) (change : TableView → TableView) (t : TemplatesView) → IsOfSlots change → plans_of (with_table id change t) ≡ plans_of t
plans-with id change t same = by (table_of id t) refl where
  by : (o : Option TableView) → table_of id t ≡ o → plans_of (changed_if id change t o) ≡ plans_of t
  by None is = refl
  by (Some table) is =
      ap (λ (tables : List (ℕ × Table)). record { patterns = t.patterns; actions = t.actions; tables = tables }) (written id t.tables table (change table) is (λ k. same k table))

-- and their ids
keys-written : (id : ℕ) (tables : List (ℕ × TableView)) (new : TableView) → keys_of (set_value (nat_eq id) tables new) ≡ keys_of tables
keys-written id [] new = refl
keys-written id (e ∷ tables) new = by (nat_eq id e.0) (keys-written id tables new) where
  by : (b : Bool) → keys_of (set_value (nat_eq id) tables new) ≡ keys_of tables → keys_of (cond b ((e.0, new) ∷ tables) (e ∷ set_value (nat_eq id) tables new)) ≡ e.0 ∷ keys_of tables
  by true more = refl
  by false more = ap (λ ks. e.0 ∷ ks) more

pub tables-with : (id : ℕ) (change : TableView → TableView) (t : TemplatesView) → IsDistinct nat_eq (keys_of t.tables) → IsDistinct nat_eq (keys_of (with_table id change t).tables)
tables-with id change t distinct = by (table_of id t) where
  by : (o : Option TableView) → IsDistinct nat_eq (keys_of (changed_if id change t o).tables)
  by None = distinct
  by (Some table) = subst (IsDistinct nat_eq) (sym (keys-written id t.tables (change table))) distinct
