use Rattle.std.proofs.Common.{rules}
use Rattle.ring_tests.proofs.Numbered.{Numbered-new}
use Rattle.ring_tests.proofs.small_rings.what_is_left_is_drained_in_order.Goals as goal

pub take_pass-other-requires-clause-numbers : goal.take_pass-other-requires-clause-numbers
take_pass-other-requires-clause-numbers g c = Numbered-new _ 2 (search rules) c.in_ok-ring.ensures.numbers
