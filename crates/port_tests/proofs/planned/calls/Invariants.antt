use Rattle.std.proofs.Common.{◌≤◌, ◌+◌, length}
use Rattle.port_tests.proofs.planned.calls.Given as goal

abbrev pub invariant-loop-line : goal.invariant-loop-line
invariant-loop-line l = length l.calls.items + l.from ≤ l.line
