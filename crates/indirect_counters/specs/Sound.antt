-- What holds of the shared actions between calls.
use Rattle.std.specs.Prelude.{◌≡◌, ℕ, ◌^◌, ◌<◌, ◌≤◌, true, nat_eq, length, None, All}
use Rattle.std.specs.List.{IsDistinct}
use Rattle.std.specs.Map.{keys_of}
use Rattle.flow_actions.specs.declared.action.Action.{Action}
use Rattle.flow_actions.specs.Kinds.{kind_of, is_shareable}
use Rattle.flow_rules.specs.Shared.{IsSharedOn}
use Rattle.indirect_counters.specs.declared.shared_action.SharedAction.{SharedAction}
use Rattle.indirect_counters.specs.Counts.{IsSumOfLengths}
use Rattle.indirect_counters.specs.Entries.{Entries, entry_at}

-- an id has 16 bits, rules can share the value, and what was counted are frames
abbrev pub IsLawful : ℕ × SharedAction → Type 0
IsLawful entry = (entry.0 < 2 ^ 16) × (is_shareable (kind_of entry.1.value) ≡ true) × IsSumOfLengths entry.1.count

-- no id stands twice, and there are at most 1,024 of them
pub record Sound (entries : Entries) : Type 0 where
  pub ids : IsDistinct nat_eq (keys_of entries)
  pub few : length entries ≤ 1024
  pub lawful : All IsLawful entries

-- all values, held ones too, are those of a port of so many Rx queues
abbrev pub AreOn : ℕ → Entries → Type 0
AreOn rxq entries = All (λ (entry : ℕ × SharedAction). IsSharedOn rxq entry.1.value) entries

-- rules can share the value, the id is free, and there is a place
pub record CanAdd (id : ℕ) (value : Action) (entries : Entries) : Type 0 where
  pub shareable : is_shareable (kind_of value) ≡ true
  pub free : entry_at id entries ≡ None
  pub place : length entries < 1024
