use Rattle.std.proofs.Common.{◌≡◌, ◌<◌, All}
use Rattle.frame_ring.specs.Passes.{number_of, offered}
use Rattle.frame_ring.specs.Rings.{IsPassOf}
use Rattle.ring_tests.proofs.four_threads.send.Given as goal

abbrev pub invariant-loop : goal.invariant-loop
invariant-loop g l = record {
  pass : IsPassOf l.ring l.hand.pass × (number_of l.hand.pass ≡ 0);
  frame : (l.held.number ≡ l.number) × (l.held.len ≡ 60);
  rises : All (λ f. f.number < l.number) (offered l.hand.pass);
}
