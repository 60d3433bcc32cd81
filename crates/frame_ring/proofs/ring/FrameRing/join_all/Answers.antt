use Rattle.std.proofs.Common.{rules, ◌∷◌, [], map, ap, ◌∙◌, append-nil, lit<, arith}
use Rattle.crossbeam_queue.specs.Passes.{view}
use Rattle.frame_ring.specs.Views.{knows, counts}
use Rattle.frame_ring.specs.Steps.{joined, joined_counts}
use Rattle.frame_ring.specs.Passes.{frames_of, counts_of}
use Rattle.frame_ring.specs.Rings.{floor_of, passes_of, capacity_of, buffers_of, IsPassOf}
use Rattle.frame_ring.proofs.Draining.{merges_from, count_merges_from, of_last, map_of_last}
use Rattle.frame_ring.proofs.ring.FrameRing.join_all.Goals as goal

pub loop-other-init : goal.loop-other-init
loop-other-init c =
    let r = c.args.self.now in
    let p = c.unwrap-last.result in
    let last = of_last (IsPassOf r) c.args.items.now.items c.pop.new.self.items c.pop.result p c.pop.ensures.items c.unwrap-last.ensures c.requires.1 in
    record {
      in_ring = last.1.0;
      in_free = last.1.1;
      frames = (frames_of p ∷ [], last.1.2, lit< tt, map_of_last frames_of c.args.items.now.items c.pop.new.self.items c.pop.result p [] c.pop.ensures.items c.unwrap-last.ensures ∙ append-nil (map frames_of c.args.items.now.items));
      tally = (counts_of p ∷ [], last.1.3, lit< tt, map_of_last counts_of c.args.items.now.items c.pop.new.self.items c.pop.result p [] c.pop.ensures.items c.unwrap-last.ensures ∙ append-nil (map counts_of c.args.items.now.items));
      rest = last.0;
      room = search rules;
    }

pub absorb-requires-clause-queue : goal.absorb-requires-clause-queue
absorb-requires-clause-queue c =
    let r = c.args.self.now in
    let p = c.in-Some.other in
    let inv = c.loop-other.invariant in
    let last = of_last (IsPassOf r) c.loop-other.items.items c.pop-in-loop-other.new.self.items c.pop-in-loop-other.result p c.pop-in-loop-other.ensures.items c.in-Some.is inv.rest in
    (inv.in_ring, last.1.0)

pub absorb-requires-clause-rule : goal.absorb-requires-clause-rule
absorb-requires-clause-rule c =
    let r = c.args.self.now in
    let p = c.in-Some.other in
    let inv = c.loop-other.invariant in
    let last = of_last (IsPassOf r) c.loop-other.items.items c.pop-in-loop-other.new.self.items c.pop-in-loop-other.result p c.pop-in-loop-other.ensures.items c.in-Some.is inv.rest in
    merges_from _ _ (floor_of r) (passes_of r) (capacity_of r) inv.frames.0 (floor_of r) (passes_of r) (capacity_of r) (frames_of p ∷ []) _ _ inv.frames.1 last.1.2 inv.frames.2

pub absorb-requires-in-Some-clause-queue : goal.absorb-requires-in-Some-clause-queue
absorb-requires-in-Some-clause-queue c =
    let r = c.args.self.now in
    let p = c.in-Some.other in
    let inv = c.loop-other.invariant in
    let last = of_last (IsPassOf r) c.loop-other.items.items c.pop-in-loop-other.new.self.items c.pop-in-loop-other.result p c.pop-in-loop-other.ensures.items c.in-Some.is inv.rest in
    (inv.in_free, last.1.1)

pub absorb-requires-in-Some-clause-rule : goal.absorb-requires-in-Some-clause-rule
absorb-requires-in-Some-clause-rule c =
    let r = c.args.self.now in
    let p = c.in-Some.other in
    let inv = c.loop-other.invariant in
    let last = of_last (IsPassOf r) c.loop-other.items.items c.pop-in-loop-other.new.self.items c.pop-in-loop-other.result p c.pop-in-loop-other.ensures.items c.in-Some.is inv.rest in
    count_merges_from _ _ (passes_of r) (buffers_of r) inv.tally.0 (passes_of r) (buffers_of r) (counts_of p ∷ []) _ _ inv.tally.1 last.1.3 inv.tally.2

pub loop-other-preserved : goal.loop-other-preserved
loop-other-preserved c =
    let r = c.args.self.now in
    let p = c.in-Some.other in
    let inv = c.loop-other.invariant in
    let last = of_last (IsPassOf r) c.loop-other.items.items c.pop-in-loop-other.new.self.items c.pop-in-loop-other.result p c.pop-in-loop-other.ensures.items c.in-Some.is inv.rest in
    let ring = c.absorb.ensures in
    let free = c.absorb-in-Some.ensures in
    record {
      in_ring = search rules;
      in_free = search rules;
      frames = (
        frames_of p ∷ inv.frames.0,
        ring.rule ∙ ap (λ v. joined v (view p.ring)) inv.frames.1 ∙ ap (joined (knows (floor_of r) (passes_of r) (capacity_of r) inv.frames.0 [])) last.1.2,
        omega arith,
        map_of_last frames_of c.loop-other.items.items c.pop-in-loop-other.new.self.items c.pop-in-loop-other.result p inv.frames.0 c.pop-in-loop-other.ensures.items c.in-Some.is ∙ inv.frames.3,
      );
      tally = (
        counts_of p ∷ inv.tally.0,
        free.rule ∙ ap (λ v. joined_counts v (view p.free)) inv.tally.1 ∙ ap (joined_counts (counts (passes_of r) (buffers_of r) inv.tally.0)) last.1.3,
        omega arith,
        map_of_last counts_of c.loop-other.items.items c.pop-in-loop-other.new.self.items c.pop-in-loop-other.result p inv.tally.0 c.pop-in-loop-other.ensures.items c.in-Some.is ∙ inv.tally.3,
      );
      rest = last.0;
      room = search rules;
    }
