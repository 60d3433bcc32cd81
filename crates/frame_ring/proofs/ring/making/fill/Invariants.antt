use Rattle.std.proofs.Common.{◌≡◌}
use Rattle.crossbeam_queue.specs.Passes.{view}
use Rattle.crossbeam_queue.specs.Passes as queue
use Rattle.frame_ring.specs.FreeRule.{filling}
use Rattle.frame_ring.proofs.ring.making.fill.Given as goal

-- so many buffers are in the queue
abbrev pub invariant-loop-made : goal.invariant-loop-made
invariant-loop-made g l = record {
  pass : queue.IsPassOf l.free l.pass;
  filled : view l.pass ≡ filling l._made;
}
