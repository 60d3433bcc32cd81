use Rattle.frame_ring.proofs.Calls.{ring_learns, offers_from, offer_bound, offer_exact}
use Rattle.frame_ring.proofs.ring.FrameRing.offer.Goals as goal

pub push_as-requires-clause-rule : goal.push_as-requires-clause-rule
push_as-requires-clause-rule g c = (offers_from _ _ _ _ _ _ _ _ _ c.requires.pass.2 c.requires.first c.requires.above c.requires.rises c.requires.len, ring_learns _ _)

pub returns-clause-exact : goal.returns-clause-exact
returns-clause-exact g c = offer_exact _ _ _ _ _ _ _ _ _ c.push_as.result c.requires.pass.2 c.push_as.ensures.rule

pub returns-clause-bound : goal.returns-clause-bound
returns-clause-bound g c = offer_bound _ _ _ _ _ _ _ _ _ c.push_as.result c.requires.pass.2 c.requires.first c.push_as.ensures.rule
