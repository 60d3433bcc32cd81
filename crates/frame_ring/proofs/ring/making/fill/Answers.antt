use Rattle.std.proofs.Common.{arith}
use Rattle.frame_ring.proofs.Calls.{free_learns}
use Rattle.frame_ring.proofs.Making.{fills_from, fill_is_ok}
use Rattle.frame_ring.proofs.ring.making.fill.Goals as goal

pub push_as-requires-clause-rule : goal.push_as-requires-clause-rule
push_as-requires-clause-rule g c = (fills_from _ _ _ _ _ c.loop-made.invariant.filled, free_learns _ _)

pub unwrap-requires : goal.unwrap-requires
unwrap-requires g c = fill_is_ok _ c.loop-made._made _ _ _ c.push_as.result c.loop-made.invariant.filled (omega arith) _ c.push_as.ensures.rule
