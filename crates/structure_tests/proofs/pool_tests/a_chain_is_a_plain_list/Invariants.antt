use Rattle.std.proofs.Common.{◌≤◌}
use Rattle.slot_pool.specs.Links.{IsChain}
use Rattle.structure_tests.proofs.pool_tests.a_chain_is_a_plain_list.Given as goal

abbrev pub invariant-loop-step : goal.invariant-loop-step
invariant-loop-step g l = IsChain l.pool.links l.chain × (l.pool.puts ≤ l._step)
