use Rattle.std.proofs.Common.{◌≡◌, drop}
use Rattle.pattern_items.specs.Conditions.{fits}
use Rattle.pattern_items.proofs.matching.are_met.Given as goal

abbrev pub invariant-loop-condition : goal.invariant-loop-condition
invariant-loop-condition g l = fits l.conditions (g.H.Header.layer l.header).layer.v ≡ fits (drop l.condition-index l.conditions) (g.H.Header.layer l.header).layer.v
