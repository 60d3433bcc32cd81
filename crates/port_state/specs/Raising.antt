-- Counters rise: rules and shared actions stay, and each counter counts a frame for each time that it is named.
use Rattle.std.specs.Prelude.{◌≡◌, ℕ, ◌+◌, ◌*◌, ◌^◌, ◌<◌, List, [], map, count_by, slice_index_or, take, length, IsSome, Bool, true, false, Option, None, Some}
use Rattle.flow_actions.specs.declared.action.Action.{Action}
use Rattle.flow_actions.specs.declared.action.Action.TheVariants as actions
use Rattle.flow_rules.specs.RuleView.{RuleView}
use Rattle.flow_rules.specs.Shared.{Shared, value_in, counter_in}
use Rattle.flow_rules.specs.Faults.{is_count}
use Rattle.flow_rules.specs.Naming.{named_by, namings}
use Rattle.flow_rules.specs.declared.counter.Counter.TheVariants as counters
use Rattle.flow_rules.specs.declared.counter.Counter.{Counter}
use Rattle.flow_rules.specs.declared.counter.Count.{Count}
use Rattle.rules_in_effect.specs.declared.in_effect.InEffect.{InEffect}
use Rattle.rules_in_effect.specs.Entries as rules_kept
use Rattle.indirect_counters.specs.Entries.{Entries, created, entry_at, values_in_effect, in_effect_at}
use Rattle.indirect_counters.specs.Sound.{AreOn}
use Rattle.port_state.specs.Counters.{counted_more, is_counter}
use Rattle.port_state.specs.KeptState.{placed, count_kept}
use Rattle.object_ids.specs.Ids.{is_used}

-- these counters were raised by a frame of so many bytes, once for each time that they stand here
pub record Raises (rules : List InEffect) (shared : Entries) (rules' : List InEffect) (shared' : Entries) (names : List Counter) (bytes : ℕ) : Type 0 where
  pub rules_same : map placed rules' ≡ map placed rules
  pub values_same : values_in_effect shared' ≡ values_in_effect shared
  pub used : (id : ℕ) → is_used id shared' ≡ is_used id shared
  pub number : length shared' ≡ length shared
  pub held : (id : ℕ) (value : Action) → entry_at id shared ≡ Some (created value true) → entry_at id shared' ≡ Some (created value true)
  pub on_port : (rxq : ℕ) → AreOn rxq shared → AreOn rxq shared'
  pub counts : (c : Counter) → count_kept rules' shared' c ≡ counted_more (count_kept rules shared c) (count_by (is_counter c) names) bytes

-- so many more frames can be counted
abbrev pub HasRoomFor : ℕ → Count → Type 0
HasRoomFor n count = (count.hits + n < 2 ^ 64) × (count.bytes + n * 2 ^ 32 < 2 ^ 128)

-- a shared action is in effect; its id has 16 bits
abbrev pub IsSharedThere : ℕ → Entries → Type 0
IsSharedThere id shared = (id < 2 ^ 16) × IsSome (in_effect_at id shared)

-- the counter is kept: its rule is in effect, or its shared action is
abbrev pub IsKept : Counter → List InEffect → Entries → Type 0
IsKept (counters.Rule id) rules shared = IsSome (rules_kept.entry_at id rules)
IsKept (counters.Shared id) rules shared = IsSharedThere id shared

-- the counter is that of this rule, or that of a shared action in effect
abbrev pub IsNamed : ℕ → Entries → Counter → Type 0
IsNamed rule shared (counters.Rule id) = id ≡ rule
IsNamed rule shared (counters.Shared id) = IsSharedThere id shared

abbrev pub is_count_of : Option Action → Bool
is_count_of None = false
is_count_of (Some action) = is_count action

abbrev pub actions_in : Option RuleView → List Action
actions_in None = []
actions_in (Some rule) = rule.actions

-- what the action at a place of a rule names
abbrev pub naming_at : Shared → Option RuleView → ℕ → List Counter
naming_at shared None place = []
naming_at shared (Some rule) place = named_by (counter_in rule.id (slice_index_or rule.actions place actions.Void)) (value_in shared (slice_index_or rule.actions place actions.Void))

-- what so many of its actions name
abbrev pub namings_up : Shared → Option RuleView → ℕ → List Counter
namings_up shared None n = []
namings_up shared (Some rule) n = namings shared (record rule { actions = take n rule.actions })
