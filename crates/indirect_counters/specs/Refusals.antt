-- Why calls on shared actions are refused: all faults in order, and the first of them.
use Rattle.std.specs.Prelude.{◌≡◌, ℕ, Bool, false, ◌&&◌, not, nat_eq, nat_lt, List, ◌++◌, Option, None, Some}
use Rattle.std.specs.Option.{is_none}
use Rattle.flow_actions.specs.declared.action.Action.{Action}
use Rattle.flow_actions.specs.declared.action.ActionKind.{ActionKind}
use Rattle.flow_actions.specs.Kinds.{kind_of, action_number, is_shareable}
use Rattle.flow_rules.specs.declared.spec.Attr.{Attr}
use Rattle.flow_rules.specs.declared.fault.Fault.{Fault}
use Rattle.flow_rules.specs.declared.fault.Cause.TheVariants as causes
use Rattle.flow_rules.specs.declared.fault.TplFault.{TplFault}
use Rattle.flow_rules.specs.declared.fault.TplFault.TheVariants as answers
use Rattle.flow_rules.specs.Faults.{fault_if, first, direction_faults, is_bad, is_count}
use Rattle.object_ids.specs.Ids.{id_faults}
use Rattle.indirect_counters.specs.declared.shared_action.SharedAction.{SharedAction}
use Rattle.indirect_counters.specs.Entries.{Entries, in_effect_at}

-- the faults of a creation, on a port of so many Rx queues; there may be 1,024 shared actions, held ones too
abbrev pub create_faults : ℕ → Entries → Option ℕ → Attr → Action → List Fault
create_faults rxq entries id attr action =
    direction_faults attr
    ++ (fault_if (not (is_shareable (kind_of action))) causes.KindNotIndirect 0
    ++ (fault_if (is_bad rxq 0 action) causes.ActionConf 0
    ++ id_faults 1024 id entries))

abbrev pub create_fault : ℕ → Entries → Option ℕ → Attr → Action → Option Fault
create_fault rxq entries id attr action = first (create_faults rxq entries id attr action)

-- two of the kinds that rules can share are the same
abbrev pub is_same_kind : ActionKind → ActionKind → Bool
is_same_kind kind other = is_shareable kind && nat_eq (action_number kind) (action_number other)

-- the action in effect, if there is one, is of another kind than the new value
abbrev pub is_of_other_kind : Action → Option SharedAction → Bool
is_of_other_kind value None = false
is_of_other_kind value (Some entry) = not (is_same_kind (kind_of entry.value) (kind_of value))

-- the faults of a new value
abbrev pub update_faults : ℕ → Entries → ℕ → Action → List Fault
update_faults rxq entries id value =
    fault_if (is_none (in_effect_at id entries)) causes.NoObject 0
    ++ (fault_if (is_of_other_kind value (in_effect_at id entries)) causes.KindDiffers 0
    ++ (fault_if (is_count value) causes.CannotUpdate 0
    ++ fault_if (is_bad rxq 0 value) causes.ActionConf 0))

abbrev pub update_fault : ℕ → Entries → ℕ → Action → Option Fault
update_fault rxq entries id value = first (update_faults rxq entries id value)

-- the faults of a new value that an operation queue shall take: what stands at the id doesn't count yet
abbrev pub queued_update_faults : ℕ → Action → List Fault
queued_update_faults rxq value =
    fault_if (not (is_shareable (kind_of value))) causes.KindNotIndirect 0
    ++ (fault_if (is_count value) causes.CannotUpdate 0
    ++ fault_if (is_bad rxq 0 value) causes.ActionConf 0)

abbrev pub queued_update_fault : ℕ → Action → Option Fault
queued_update_fault rxq value = first (queued_update_faults rxq value)

-- rules use it
abbrev pub has_users : Option SharedAction → Bool
has_users None = false
has_users (Some entry) = nat_lt 0 entry.users

abbrev pub destroy_faults : Entries → ℕ → List Fault
destroy_faults entries id =
    fault_if (is_none (in_effect_at id entries)) causes.NoObject 0
    ++ fault_if (has_users (in_effect_at id entries)) causes.Busy 0

abbrev pub destroy_fault : Entries → ℕ → Option Fault
destroy_fault entries id = first (destroy_faults entries id)

-- a refusal is the first fault; memory is wanted only where there is none
abbrev pub IsDue : TplFault → Option Fault → Type 0
IsDue (answers.Fault fault) due = due ≡ Some fault
IsDue answers.NoMemory due = due ≡ None
