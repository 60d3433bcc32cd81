-- The scan of a list for the best rule, from the left.
use Rattle.std.specs.Prelude.{ℕ, Bool, true, nat_lt, List, if◌then◌else◌, Option, None, Some, fold}
use Rattle.packet_headers.specs.declared.items.LayerAt.{LayerAt}
use Rattle.flow_rules.specs.RuleView.{RuleView}
use Rattle.flow_rules.specs.Best.{takes}
use Rattle.rules_in_effect.specs.declared.in_effect.InEffect.{InEffect}

-- a later rule comes before the best one so far
abbrev pub is_lower : RuleView → Option RuleView → Bool
is_lower rule None = true
is_lower rule (Some best) = nat_lt rule.priority best.priority

-- the best so far, with one more rule
abbrev pub next_best : ℕ → List LayerAt → Option RuleView → RuleView → Option RuleView
next_best group layers best rule = if takes group layers rule then (if is_lower rule best then Some rule else best) else best

-- the best so far, with some rules more
abbrev pub scanned : ℕ → List LayerAt → Option RuleView → List InEffect → Option RuleView
scanned group layers best entries = fold (λ (so_far : Option RuleView) entry. next_best group layers so_far entry.rule) best entries
