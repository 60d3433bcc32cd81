use Rattle.frame_ring.proofs.Calls.{ring_learns, grabs_from, above_if, len_if, grab_exact}
use Rattle.frame_ring.proofs.ring.FrameRing.grab.Goals as goal

pub pop_as-requires-clause-rule : goal.pop_as-requires-clause-rule
pop_as-requires-clause-rule g c = (grabs_from _ _ _ _ _ _ _ _ c.requires.2, ring_learns _ _)

pub returns-clause-above : goal.returns-clause-above
returns-clause-above g c = above_if _ _ _ _ _ _ _ _ c.pop_as.result c.requires.2 c.pop_as.ensures.rule

pub returns-clause-len : goal.returns-clause-len
returns-clause-len g c = len_if _ _ _ _ _ _ _ _ c.pop_as.result c.requires.2 c.pop_as.ensures.rule

pub returns-clause-exact : goal.returns-clause-exact
returns-clause-exact g c = grab_exact _ _ _ _ _ _ _ _ c.pop_as.result c.requires.2 c.pop_as.ensures.rule
