-- The actions that rules share, as a list of ids with what stands there.
use Rattle.std.specs.Prelude.{ℕ, Bool, nat_eq, List, [], ◌∷◌, Option, None, Some, if◌then◌else◌}
use Rattle.std.specs.Option.{option_map}
use Rattle.std.specs.Map.{lookup}
use Rattle.flow_actions.specs.declared.action.Action.{Action}
use Rattle.flow_actions.specs.declared.action.ActionKind.{ActionKind}
use Rattle.flow_actions.specs.Kinds.{kind_of}
use Rattle.flow_rules.specs.declared.counter.Count.{Count}
use Rattle.flow_rules.specs.Shared.{Shared}
use Rattle.indirect_counters.specs.declared.shared_action.SharedAction.{SharedAction}
use Rattle.indirect_counters.specs.Counts.{no_count}

abbrev pub Entries : Type 0
Entries = List (ℕ × SharedAction)

-- what stands at an id, held or in effect
abbrev pub entry_at : ℕ → Entries → Option SharedAction
entry_at id entries = lookup (nat_eq id) entries

abbrev pub if_in_effect : Option SharedAction → Option SharedAction
if_in_effect None = None
if_in_effect (Some entry) = if entry.held then None else Some entry

-- the action of an id, where it is in effect
abbrev pub in_effect_at : ℕ → Entries → Option SharedAction
in_effect_at id entries = if_in_effect (entry_at id entries)

-- its value
abbrev pub value_at : ℕ → Entries → Option Action
value_at id entries = option_map (λ entry. entry.value) (in_effect_at id entries)

-- what it has counted
abbrev pub count_at : ℕ → Entries → Option Count
count_at id entries = option_map (λ entry. entry.count) (in_effect_at id entries)

-- its kind
abbrev pub kind_at : ℕ → Entries → Option ActionKind
kind_at id entries = option_map kind_of (value_at id entries)

-- the values of those in effect, in the order of the list
abbrev pub values_in_effect : Entries → Shared
values_in_effect [] = []
values_in_effect (entry ∷ entries) = if entry.1.held then values_in_effect entries else (entry.0, entry.1.value) ∷ values_in_effect entries

-- a new action, which no rule uses
abbrev pub created : Action → Bool → SharedAction
created value held = record { value = value; users = 0; held = held; count = no_count }
