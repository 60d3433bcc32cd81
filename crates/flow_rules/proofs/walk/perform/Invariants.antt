use Rattle.std.proofs.Common.{◌≡◌, take, fold}
use Rattle.flow_rules.specs.Walk.{Walked, performed}
use Rattle.flow_rules.specs.Way.{IsAt}
use Rattle.flow_rules.proofs.walk.perform.Given as goal

-- the actions so far are performed
abbrev pub invariant-loop-action : goal.invariant-loop-action
invariant-loop-action g l =
    ((walked : Walked) → IsAt l.fn.key l.initial.way walked
    → IsAt l.fn.key l.way (fold (performed (g.F.FlowsInEffect.flows l.fn.flows) l.fn.rule) walked (take l.action-index l.fn.rule.actions)))
    × (l.way.path ≡ l.initial.way.path)
