use Rattle.frame_ring.proofs.Calls.{free_learns, takes_from, take_exact}
use Rattle.frame_ring.proofs.ring.FrameRing.take_free.Goals as goal

pub pop_as-requires-clause-rule : goal.pop_as-requires-clause-rule
pop_as-requires-clause-rule g c = (takes_from _ _ _ _ _ _ _ c.requires.3, free_learns _ _)

pub returns-clause-exact : goal.returns-clause-exact
returns-clause-exact g c = take_exact _ _ _ _ _ _ _ c.pop_as.result c.requires.3 c.pop_as.ensures.rule
