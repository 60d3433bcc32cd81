-- A table behind a change of it.
use Rattle.std.proofs.Common.{◌≡◌, ℕ, Bool, true, false, cond, nat_eq, List, [], ◌∷◌, Option, None, Some, IsSome, refl, ap, ◌∙◌, subst, sym}
use Rattle.std.specs.Map.{lookup, set_value}
use Rattle.template_tables.specs.TableView.{TableView}
use Rattle.template_tables.specs.TemplatesView.{TemplatesView, table_of, with_table, changed_if}

lookup-written : {X : Type 0} (test : ℕ → Bool) (es : List (ℕ × X)) (v w : X) → lookup test es ≡ Some v → lookup test (set_value test es w) ≡ Some w
lookup-written test [] v w found = absurd (never found) where
  never : {Y : Type 0} {y : Y} → None ≡ Some y → ⊥
  never e = cc
lookup-written test (e ∷ es) v w found = by (test e.0) refl (lookup-written test es v w) found where
  by : (b : Bool) → test e.0 ≡ b → (lookup test es ≡ Some v → lookup test (set_value test es w) ≡ Some w) → cond b (Some e.1) (lookup test es) ≡ Some v
      → lookup test (cond b ((e.0, w) ∷ es) (e ∷ set_value test es w)) ≡ Some w
  by true same behind is = ap (λ b. cond b (Some w) (lookup test es)) same
  by false same behind is = ap (λ b. cond b (Some e.1) (lookup test (set_value test es w))) same ∙ behind is

-- the table of an id is the changed one
pub table_changed : (id : ℕ) (change : TableView → TableView) (t : TemplatesView) (table : TableView) → table_of id t ≡ Some table
    → table_of id (with_table id change t) ≡ Some (change table)
table_changed id change t table is =
    ap (λ found. table_of id (changed_if id change t found)) is ∙ lookup-written (nat_eq id) t.tables table (change table) is

-- so it is there still
pub table_there : (id : ℕ) (change : TableView → TableView) (t new : TemplatesView) → IsSome (table_of id t) → new ≡ with_table id change t → IsSome (table_of id new)
table_there id change t new there is = by (table_of id t) refl there where
  by : (o : Option TableView) → table_of id t ≡ o → IsSome o → IsSome (table_of id new)
  by None none some = cc
  by (Some table) found some = subst IsSome (sym (ap (table_of id) is ∙ table_changed id change t table found)) refl
