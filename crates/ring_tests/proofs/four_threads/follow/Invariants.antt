use Rattle.frame_ring.specs.Rings.{IsPassOf}
use Rattle.ring_tests.proofs.four_threads.follow.Given as goal

abbrev pub invariant-loop : goal.invariant-loop
invariant-loop g l = IsPassOf l.ring l.hand.pass
