-- What each change does to what packets see.
use Rattle.std.specs.Prelude.{ℕ, Bool, not, nat_eq, filter, List, [], ◌∷◌, ◌++◌}
use Rattle.flow_rules.specs.declared.change.Change.{Change}
use Rattle.flow_rules.specs.declared.change.Change.TheVariants as changes
use Rattle.flow_rules.specs.RuleView.{RuleView}
use Rattle.flow_rules.specs.Shared.{with_shared, without_shared}
use Rattle.flow_rules.specs.Walk.{Flows}

-- a rule has this id
abbrev pub has_id : ℕ → RuleView → Bool
has_id id rule = nat_eq rule.id id

-- the rules but that of an id
abbrev pub without : ℕ → List RuleView → List RuleView
without id rules = filter (λ (rule : RuleView). not (has_id id rule)) rules

abbrev pub changed : Flows → Change → Flows
changed flows (changes.Added rule) = record flows { rules = flows.rules ++ rule ∷ [] }
changed flows (changes.Removed id) = record flows { rules = without id flows.rules }
changed flows changes.Flushed = record flows { rules = [] }
changed flows (changes.IndirectSet id value) = record flows { shared = with_shared id value flows.shared }
changed flows (changes.IndirectGone id) = record flows { shared = without_shared id flows.shared }
changed flows (changes.Isolated on) = record flows { isolated = on }
