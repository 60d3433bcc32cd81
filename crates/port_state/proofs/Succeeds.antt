-- When an operation succeeds.
use Rattle.std.proofs.Common.{◌≡◌, ◌+◌, ◌++◌, ℕ, Bool, true, false, not, [], Option, None, Some, refl, ap, ◌∙◌}
use Rattle.std.specs.List.{count_by}
use Rattle.std.specs.Option.{is_none, option_map}
use Rattle.flow_actions.specs.declared.action.Action.{Action}
use Rattle.flow_actions.specs.Kinds.{kind_of, is_shareable}
use Rattle.flow_rules.specs.declared.fault.Cause.TheVariants as causes
use Rattle.flow_rules.specs.Faults.{fault_if, first, is_bad, is_count}
use Rattle.flow_rules.specs.Shared.{shared_at}
use Rattle.indirect_counters.specs.declared.shared_action.SharedAction.{SharedAction}
use Rattle.indirect_counters.specs.Refusals.{is_of_other_kind, is_same_kind, queued_update_fault, update_fault}
use Rattle.port_state.specs.State.{State, all_held, has_kind_of, is_held_user, is_user, objects}
use Rattle.port_state.proofs.Objects.{judged-at, object_of}

-- a value that was taken as it was enqueued
record Fits (count bad : Bool) : Type 0 where
  no_count : count ≡ false
  no_bad : bad ≡ false

fits : (kind count bad : Bool) → first (fault_if kind causes.KindNotIndirect 0 ++ (fault_if count causes.CannotUpdate 0 ++ fault_if bad causes.ActionConf 0)) ≡ None → Fits count bad
fits true count bad none = cc
fits false true bad none = cc
fits false false true none = cc
fits false false false none = record { no_count = refl; no_bad = refl }

-- such an update succeeds where the action in effect is of its kind
pub update-succeeds : (s : State) (rxq id : ℕ) (value : Action) → queued_update_fault rxq value ≡ None → is_none (update_fault rxq (objects s) id value) ≡ has_kind_of value (shared_at id s.shared)
update-succeeds s rxq id value none =
    let fit = fits (not (is_shareable (kind_of value))) (is_count value) (is_bad rxq 0 value) none in
    let found = judged-at (λ q. count_by (is_user q) s.rules + count_by (is_held_user q) (all_held s)) s.shared (all_held s) id in
    ap (λ o. faults o (is_count value) (is_bad rxq 0 value)) found
    ∙ ap (λ b. faults (option_map (object_of (count_by (is_user id) s.rules + count_by (is_held_user id) (all_held s))) (shared_at id s.shared)) b (is_bad rxq 0 value)) fit.no_count
    ∙ ap (faults (option_map (object_of (count_by (is_user id) s.rules + count_by (is_held_user id) (all_held s))) (shared_at id s.shared)) false) fit.no_bad
    ∙ by (count_by (is_user id) s.rules + count_by (is_held_user id) (all_held s)) (shared_at id s.shared) where
      faults : Option SharedAction → Bool → Bool → Bool
      faults o count bad = is_none (first (fault_if (is_none o) causes.NoObject 0 ++ (fault_if (is_of_other_kind value o) causes.KindDiffers 0 ++ (fault_if count causes.CannotUpdate 0 ++ fault_if bad causes.ActionConf 0))))

      kinds : (b : Bool) → is_none (first (fault_if (not b) causes.KindDiffers 0 ++ [])) ≡ b
      kinds true = refl
      kinds false = refl

      by : (n : ℕ) (o : Option Action) → faults (option_map (object_of n) o) false false ≡ has_kind_of value o
      by n None = refl
      by n (Some old) = kinds (is_same_kind (kind_of old) (kind_of value))
