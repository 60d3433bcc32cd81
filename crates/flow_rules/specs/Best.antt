-- Which rule of a group takes a frame (rte_flow guide: priorities). Of those that match, that with the lowest priority
-- number; among equals the first of the list, which is the order in which rules took effect.
use Rattle.std.specs.Prelude.{ℕ, Bool, ◌&&◌, nat_eq, nat_lt, filter, if◌then◌else◌, List, [], ◌∷◌, Option, None, Some}
use Rattle.packet_headers.specs.declared.items.LayerAt.{LayerAt}
use Rattle.pattern_items.specs.Matches.{accepts}
use Rattle.flow_rules.specs.RuleView.{RuleView}

-- a rule of the group that matches the layers
abbrev pub takes : ℕ → List LayerAt → RuleView → Bool
takes group layers rule = nat_eq rule.group group && accepts rule.test layers

-- the earlier of two rules, unless the later has a lower priority number
abbrev pub better : RuleView → Option RuleView → RuleView
better rule None = rule
better rule (Some later) = if nat_lt later.priority rule.priority then later else rule

-- the first rule of the lowest priority number
abbrev pub first_lowest : List RuleView → Option RuleView
first_lowest [] = None
first_lowest (rule ∷ rules) = Some (better rule (first_lowest rules))

abbrev pub best : List RuleView → ℕ → List LayerAt → Option RuleView
best rules group layers = first_lowest (filter (takes group layers) rules)
