use Rattle.std.proofs.Common.{rules}
use Rattle.ring_tests.proofs.Numbered.{Numbered-new}
use Rattle.ring_tests.proofs.small_rings.a_ring_of_one_frame_and_two_buffers.Goals as goal

pub take_pass-pass-requires-clause-numbers : goal.take_pass-pass-requires-clause-numbers
take_pass-pass-requires-clause-numbers g c = Numbered-new _ 1 (search rules) c.in_ok-ring.ensures.numbers
