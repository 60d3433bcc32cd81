use Rattle.std.proofs.Common.{◌≡◌, [], take, drop}
use Rattle.flow_rules.specs.Faults.{first, action_faults}
use Rattle.flow_rules.proofs.validation.action_fault.Given as goal

-- the first fault from here on is the first of all
abbrev pub invariant-loop-action : goal.invariant-loop-action
invariant-loop-action g l =
    (l.place ≡ l.action-index)
    × (first (action_faults l.rxq (g.N.Known.kinds l.known) l.pattern l.group l.place (take l.action-index l.list) (drop l.action-index l.list))
    ≡ first (action_faults l.rxq (g.N.Known.kinds l.known) l.pattern l.group 0 [] l.list))
