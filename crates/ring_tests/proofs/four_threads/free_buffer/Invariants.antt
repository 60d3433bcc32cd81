use Rattle.std.proofs.Common.{◌≡◌}
use Rattle.frame_ring.specs.Passes.{number_of, offered}
use Rattle.frame_ring.specs.Rings.{IsPassOf}
use Rattle.ring_tests.proofs.four_threads.free_buffer.Given as goal

abbrev pub invariant-loop : goal.invariant-loop
invariant-loop g l = IsPassOf l.ring l.hand.pass × (number_of l.hand.pass ≡ number_of l.fn.hand.pass) × (offered l.hand.pass ≡ offered l.fn.hand.pass)
