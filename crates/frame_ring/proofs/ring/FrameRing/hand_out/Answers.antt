use Rattle.std.proofs.Common.{rules, ◌<◌, ◌-◌, ◌+◌, refl, arith}
use Rattle.std.proofs.lemmas.List.Elements.{All-push, All-same}
use Rattle.frame_ring.specs.declared.pass.RingPass.{RingPass}
use Rattle.frame_ring.specs.Rings.{passes_of, IsPassOf, IsFresh}
use Rattle.frame_ring.proofs.Making.{ring_forks, free_forks, ring_rest, free_rest, cut_pass, last_pass, numbers_more}
use Rattle.frame_ring.proofs.ring.FrameRing.hand_out.Goals as goal

pub another-other_ring-requires-clause-rule : goal.another-other_ring-requires-clause-rule
another-other_ring-requires-clause-rule c = ring_forks c.args.self.now _ c.loop-number.number _ (omega arith) c.loop-number.invariant.frames

pub another-other_free-requires-clause-rule : goal.another-other_free-requires-clause-rule
another-other_free-requires-clause-rule c = free_forks c.args.self.now _ c.loop-number.number _ (omega arith) c.loop-number.invariant.tally

pub loop-number-preserved : goal.loop-number-preserved
loop-number-preserved c =
    let r = c.args.self.now in
    let n = c.loop-number.number in
    let lt : n < passes_of r = omega arith in
    let inv = c.loop-number.invariant in
    let ring = c.another-other_ring.ensures in
    let free = c.another-other_free.ensures in
    let p : RingPass = record { ring = c.another-other_ring.new.pass; free = c.another-other_free.new.pass; number = n } in
    let is = cut_pass r p _ _ lt (search rules) (search rules) inv.frames inv.tally ring.rule.0 free.rule.0 in
    record {
      in_ring = ring.queue.1;
      in_free = free.queue.1;
      frames = ring_rest r n _ _ lt inv.frames ring.rule.1;
      tally = free_rest r n _ _ lt inv.tally free.rule.1;
      passes = All-same (IsPassOf r) _ _ c.push_reserved.ensures.items (All-push (IsPassOf r) _ _ inv.passes is.0);
      fresh = All-same IsFresh _ _ c.push_reserved.ensures.items (All-push IsFresh _ _ inv.fresh is.1);
      numbers = numbers_more _ _ p n (n + 1) c.push_reserved.ensures.items inv.numbers refl refl;
      made = search rules;
      room = search rules;
    }

pub returns-clause-passes : goal.returns-clause-passes
returns-clause-passes c =
    let r = c.args.self.now in
    let some_pass = c.requires.room.0 in
    let inv = c.loop-number.invariant in
    let p : RingPass = record { ring = c.loop-number.ring; free = c.loop-number.free; number = passes_of r - 1 } in
    let is = last_pass r p c.loop-number.number (omega (arith, some_pass)) (omega arith) inv.in_ring inv.in_free inv.frames inv.tally in
    All-same (IsPassOf r) _ _ c.push_reserved-2.ensures.items (All-push (IsPassOf r) _ _ inv.passes is.0)

pub returns-clause-fresh : goal.returns-clause-fresh
returns-clause-fresh c =
    let r = c.args.self.now in
    let some_pass = c.requires.room.0 in
    let inv = c.loop-number.invariant in
    let p : RingPass = record { ring = c.loop-number.ring; free = c.loop-number.free; number = passes_of r - 1 } in
    let is = last_pass r p c.loop-number.number (omega (arith, some_pass)) (omega arith) inv.in_ring inv.in_free inv.frames inv.tally in
    All-same IsFresh _ _ c.push_reserved-2.ensures.items (All-push IsFresh _ _ inv.fresh is.1)

pub returns-clause-numbers : goal.returns-clause-numbers
returns-clause-numbers c =
    let r = c.args.self.now in
    let some_pass = c.requires.room.0 in
    let inv = c.loop-number.invariant in
    let p : RingPass = record { ring = c.loop-number.ring; free = c.loop-number.free; number = passes_of r - 1 } in
    numbers_more _ _ p c.loop-number.number (passes_of r) c.push_reserved-2.ensures.items inv.numbers (omega arith) (omega (arith, some_pass))
