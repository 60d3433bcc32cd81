use Rattle.std.proofs.Common.{◌≤◌, length}
use Rattle.port_speed.proofs.planned.changes.Given as goal

abbrev pub invariant-loop-place : goal.invariant-loop-place
invariant-loop-place l = length l.calls.items ≤ l.place
