use Rattle.std.proofs.Common.{◌-◌}
use Rattle.test_crews.specs.Passing.{MayPass}
use Rattle.test_crews.proofs.passing.pass_all.Given as goal

abbrev pub decreases-loop-passing : goal.decreases-loop-passing
decreases-loop-passing g l = l.passing.share.end - l.passing.share.next

abbrev pub invariant-loop-passing : goal.invariant-loop-passing
invariant-loop-passing g l = MayPass l.port l.seat l.passing
