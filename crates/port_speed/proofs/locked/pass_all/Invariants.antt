use Rattle.std.proofs.Common.{◌-◌, ◌≤◌}
use Rattle.port_speed.proofs.locked.pass_all.Given as goal

abbrev pub decreases-loop-share : goal.decreases-loop-share
decreases-loop-share g l = l.share.end - l.share.next

abbrev pub invariant-loop-share : goal.invariant-loop-share
invariant-loop-share g l = 1 ≤ l.share.step
