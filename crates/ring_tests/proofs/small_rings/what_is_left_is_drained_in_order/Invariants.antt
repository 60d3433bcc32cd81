use Rattle.std.proofs.Common.{◌≡◌, ◌<◌, All}
use Rattle.frame_ring.specs.Passes.{number_of, offered}
use Rattle.frame_ring.specs.Rings.{IsPassOf}
use Rattle.ring_tests.proofs.small_rings.what_is_left_is_drained_in_order.Given as goal

abbrev pub invariant-loop-number : goal.invariant-loop-number
invariant-loop-number g l = record {
  pass : IsPassOf l.ring l.pass × (number_of l.pass ≡ 0);
  rises : All (λ f. f.number < l.number) (offered l.pass);
}
