use Rattle.std.proofs.Common.{le_refl}
use Rattle.structure_tests.proofs.pool_tests.a_chain_is_a_plain_list.Goals as goal

pub loop-step-init : goal.loop-step-init
loop-step-init g c = rw c.in_ok-pool.ensures (c.new-chain.ensures.chain _, le_refl 0)
