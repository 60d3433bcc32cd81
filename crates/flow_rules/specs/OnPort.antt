-- Rules and fates for a port of so many Rx queues.
use Rattle.std.specs.Prelude.{ℕ, ◌<◌, All}
use Rattle.flow_actions.specs.declared.verdict.Fate.{Fate}
use Rattle.flow_actions.specs.declared.verdict.Fate.TheVariants as fates
use Rattle.flow_rules.specs.RuleView.{RuleView}
use Rattle.flow_rules.specs.Valid.{IsOnPort}

-- the queues of a rule's actions are the port's
abbrev pub IsFor : ℕ → RuleView → Type 0
IsFor rxq rule = All (IsOnPort rxq) rule.actions

-- a frame that is delivered goes to one of the port's queues
abbrev pub IsBelow : ℕ → Fate → Type 0
IsBelow rxq (fates.Queue queue) = queue < rxq
IsBelow rxq fates.Drop = Unit {0}
