use Rattle.std.proofs.Common.{◌≤◌, All}
use Rattle.port_speed.proofs.locked.members.Given as goal

abbrev pub invariant-loop-worker : goal.invariant-loop-worker
invariant-loop-worker l = All (λ m. m.caller.0 ≤ 24) l.members.items
