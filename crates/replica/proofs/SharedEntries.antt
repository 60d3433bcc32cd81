-- An insert into a map puts a shared action in the place of another, or behind all.
use Rattle.std.proofs.Common.{◌≡◌, ℕ, Bool, true, false, cond, nat_eq, is_some, [], ◌∷◌, ◌++◌, Some, refl, ap, ◌∙◌}
use Rattle.std.specs.Map.{set_value}
use Rattle.indexmap.specs.IndexMap.{insert_entry}
use Rattle.flow_actions.specs.declared.action.Action.{Action}
use Rattle.flow_rules.specs.Shared.{Shared, shared_at, with_shared}

pub entry_inserted : (id : ℕ) (value : Action) (shared : Shared) → insert_entry nat_eq shared id value ≡ with_shared id value shared
entry_inserted id value [] = refl
entry_inserted id value (entry ∷ shared) = by (nat_eq id entry.0) (entry_inserted id value shared) where
  behind : (b : Bool) (set new : Shared) → entry ∷ cond b set new ≡ cond b (entry ∷ set) (entry ∷ new)
  behind true set new = refl
  behind false set new = refl

  by : (b : Bool) → insert_entry nat_eq shared id value ≡ with_shared id value shared
      → cond b ((entry.0, value) ∷ shared) (entry ∷ insert_entry nat_eq shared id value)
      ≡ cond (is_some (cond b (Some entry.1) (shared_at id shared)))
      (cond b ((entry.0, value) ∷ shared) (entry ∷ set_value (nat_eq id) shared value))
      (entry ∷ (shared ++ (id, value) ∷ []))
  by true e = refl
  by false e = ap (λ rest. entry ∷ rest) e ∙ behind (is_some (shared_at id shared)) (set_value (nat_eq id) shared value) (shared ++ (id, value) ∷ [])
