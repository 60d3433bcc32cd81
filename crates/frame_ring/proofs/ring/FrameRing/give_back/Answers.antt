use Rattle.frame_ring.proofs.Calls.{free_learns, gives_from, give_exact}
use Rattle.frame_ring.proofs.ring.FrameRing.give_back.Goals as goal

pub push_as-requires-clause-rule : goal.push_as-requires-clause-rule
push_as-requires-clause-rule g c = (gives_from _ _ _ _ _ _ _ _ c.requires.3, free_learns _ _)

pub returns-clause-exact : goal.returns-clause-exact
returns-clause-exact g c = give_exact _ _ _ _ _ _ _ _ c.push_as.result c.requires.3 c.push_as.ensures.rule
