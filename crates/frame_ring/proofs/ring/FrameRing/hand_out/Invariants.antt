use Rattle.std.proofs.Common.{◌≡◌, ◌-◌, [], map, All, vec_capacity, vec_len}
use Rattle.std.specs.List.{range_with_len}
use Rattle.crossbeam_queue.specs.Passes.{view}
use Rattle.crossbeam_queue.specs.Passes as queue
use Rattle.frame_ring.specs.Views.{knows, counts, idle_frames, idle_counts}
use Rattle.frame_ring.specs.Passes.{number_of}
use Rattle.frame_ring.specs.Rings.{floor_of, passes_of, capacity_of, buffers_of, IsPassOf, IsFresh}
use Rattle.frame_ring.proofs.ring.FrameRing.hand_out.Given as goal

-- the passes below `number` are made, and the rest carries the others
abbrev pub invariant-loop-number : goal.invariant-loop-number
invariant-loop-number l = record {
  in_ring : queue.IsPassOf l.self.ring l.ring;
  in_free : queue.IsPassOf l.self.free l.free;
  frames : view l.ring ≡ knows (floor_of l.self) (passes_of l.self) (capacity_of l.self) (idle_frames l.number (passes_of l.self - l.number)) [];
  tally : view l.free ≡ counts (passes_of l.self) (buffers_of l.self) (idle_counts l.number (passes_of l.self - l.number));
  passes : All (IsPassOf l.self) l.items.items;
  fresh : All IsFresh l.items.items;
  numbers : map number_of l.items.items ≡ range_with_len 0 l.number;
  made : vec_len l.items ≡ l.number;
  room : vec_capacity l.items ≡ passes_of l.self;
}
