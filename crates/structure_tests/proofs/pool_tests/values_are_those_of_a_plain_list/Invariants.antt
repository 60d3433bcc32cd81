use Rattle.std.proofs.Common.{◌≡◌, ◌≤◌, []}
use Rattle.structure_tests.proofs.pool_tests.values_are_those_of_a_plain_list.Given as goal

abbrev pub invariant-loop-step : goal.invariant-loop-step
invariant-loop-step g l = (l.pool.links ≡ []) × (l.pool.puts ≤ l._step)
