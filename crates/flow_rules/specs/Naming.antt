-- Which counters the rules on a frame's path name.
use Rattle.std.specs.Prelude.{◌≡◌, ℕ, nat_eq, if◌then◌else◌, flat_map, List, [], ◌∷◌, Option, None, Some, All}
use Rattle.packet_headers.specs.declared.items.LayerAt.{LayerAt}
use Rattle.flow_actions.specs.declared.action.Action.{Action}
use Rattle.flow_actions.specs.declared.action.Action.TheVariants as actions
use Rattle.flow_rules.specs.declared.counter.Counter.{Counter}
use Rattle.flow_rules.specs.RuleView.{RuleView}
use Rattle.flow_rules.specs.Shared.{Shared, value_in, counter_in}
use Rattle.flow_rules.specs.Walk.{Flows, counters_of, verdict_of}

-- the counter, where the action is COUNT
abbrev pub named_by : Counter → Action → List Counter
named_by counter actions.Count = counter ∷ []
named_by counter _ = []

-- the counters that the actions of a rule name, in order
abbrev pub namings : Shared → RuleView → List Counter
namings shared rule = flat_map (λ action. named_by (counter_in rule.id action) (value_in shared action)) rule.actions

-- the first rule of an id
abbrev pub rule_at : ℕ → List RuleView → Option RuleView
rule_at id [] = None
rule_at id (rule ∷ rules) = if nat_eq rule.id id then Some rule else rule_at id rules

-- the counters that the rule of an id names
abbrev pub namings_of : Shared → Option RuleView → List Counter
namings_of shared None = []
namings_of shared (Some rule) = namings shared rule

abbrev pub namings_at : Flows → ℕ → List Counter
namings_at flows id = namings_of flows.shared (rule_at id flows.rules)

-- no two rules have one id: each is the one that is found by its own
abbrev pub HaveOwnIds : List RuleView → Type 0
HaveOwnIds rules = All (λ (rule : RuleView). rule_at rule.id rules ≡ Some rule) rules

-- a frame's counters are those that the rules on its path name, in order
abbrev pub AreNamedByPath : Flows → List LayerAt → Type 0
AreNamedByPath flows layers = counters_of flows layers ≡ flat_map (namings_at flows) (verdict_of flows layers).path.items
