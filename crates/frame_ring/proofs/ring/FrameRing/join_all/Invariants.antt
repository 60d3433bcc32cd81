use Rattle.std.proofs.Common.{◌≡◌, ◌<◌, List, [], ◌++◌, map, length, All, vec_len, vec_capacity}
use Rattle.crossbeam_queue.specs.Passes.{view}
use Rattle.crossbeam_queue.specs.Passes as queue
use Rattle.frame_ring.specs.declared.view.PassFrames.{PassFrames}
use Rattle.frame_ring.specs.declared.view.PassCounts.{PassCounts}
use Rattle.frame_ring.specs.Views.{knows, counts}
use Rattle.frame_ring.specs.Passes.{frames_of, counts_of}
use Rattle.frame_ring.specs.Rings.{floor_of, passes_of, capacity_of, buffers_of, IsPassOf}
use Rattle.frame_ring.proofs.ring.FrameRing.join_all.Given as goal

-- one pass carries those behind the passes that are left
abbrev pub invariant-loop-other : goal.invariant-loop-other
invariant-loop-other l = record {
  in_ring : queue.IsPassOf l.self.ring l.all.ring;
  in_free : queue.IsPassOf l.self.free l.all.free;
  frames : (own : List PassFrames) × (view l.all.ring ≡ knows (floor_of l.self) (passes_of l.self) (capacity_of l.self) own []) × (0 < length own) × (map frames_of l.items.items ++ own ≡ map frames_of l.fn.items.items);
  tally : (own : List PassCounts) × (view l.all.free ≡ counts (passes_of l.self) (buffers_of l.self) own) × (0 < length own) × (map counts_of l.items.items ++ own ≡ map counts_of l.fn.items.items);
  rest : All (IsPassOf l.self) l.items.items;
  room : vec_capacity l.items ≡ vec_capacity l.fn.items;
}

abbrev pub decreases-loop-other : goal.decreases-loop-other
decreases-loop-other l = vec_len l.items
