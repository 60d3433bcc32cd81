use Rattle.std.proofs.Common.{◌≡◌, ◌⊎◌, map}
use Rattle.frame_ring.specs.Passes.{passes_in, frames_of, frames_in}
use Rattle.frame_ring.specs.Rings.{AreAllOf, WasDrained}
use Rattle.ring_tests.proofs.passes.drain_all.Given as goal

abbrev pub invariant-loop : goal.invariant-loop
invariant-loop g l = record {
  passes : AreAllOf l.ring l.passes ⊎ WasDrained l.ring l.passes;
  accounts : frames_in l.passes ≡ map frames_of (passes_in l.fn.passes);
}
