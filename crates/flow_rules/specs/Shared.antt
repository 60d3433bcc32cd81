-- The actions that rules share, each at its id, and what an action of a rule comes to.
use Rattle.std.specs.Prelude.{◌≡◌, ℕ, Bool, true, nat_eq, is_some, List, [], ◌∷◌, ◌++◌, if◌then◌else◌, Option, None, Some, All}
use Rattle.std.specs.Map.{lookup, set_value, remove_entry}
use Rattle.flow_actions.specs.declared.action.Action.{Action}
use Rattle.flow_actions.specs.declared.action.Action.TheVariants as actions
use Rattle.flow_actions.specs.Kinds.{kind_of, is_shareable}
use Rattle.flow_rules.specs.declared.counter.Counter.{Counter}
use Rattle.flow_rules.specs.declared.counter.Counter.TheVariants as counters
use Rattle.flow_rules.specs.Valid.{IsOnPort}

-- their values in effect, in the order in which they took effect
abbrev pub Shared : Type 0
Shared = List (ℕ × Action)

abbrev pub shared_at : ℕ → Shared → Option Action
shared_at id shared = lookup (nat_eq id) shared

-- with this value at an id: in the place of another, or behind all
abbrev pub with_shared : ℕ → Action → Shared → Shared
with_shared id value shared = if is_some (shared_at id shared) then set_value (nat_eq id) shared value else shared ++ (id, value) ∷ []

abbrev pub without_shared : ℕ → Shared → Shared
without_shared id shared = remove_entry (nat_eq id) shared

-- a shared action that isn't in effect does nothing
abbrev pub or_void : Option Action → Action
or_void None = actions.Void
or_void (Some action) = action

-- what an action comes to: that of an id to the value that it has now
abbrev pub value_in : Shared → Action → Action
value_in shared (actions.Indirect id) = or_void (shared_at id shared)
value_in shared action = action

-- the counter that an action of a rule names where it comes to COUNT: the shared action's, or the rule's own
abbrev pub counter_in : ℕ → Action → Counter
counter_in rule (actions.Indirect id) = counters.Shared id
counter_in rule action = counters.Rule rule

-- rules can share such an action, on a port of so many Rx queues
abbrev pub IsSharedOn : ℕ → Action → Type 0
IsSharedOn rxq value = (is_shareable (kind_of value) ≡ true) × IsOnPort rxq value

abbrev pub AreSharedOn : ℕ → Shared → Type 0
AreSharedOn rxq shared = All (λ (entry : ℕ × Action). IsSharedOn rxq entry.1) shared
