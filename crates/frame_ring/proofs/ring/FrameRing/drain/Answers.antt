use Rattle.std.proofs.Common.{◌<◌, length, ◌∙◌, subst, sym, arith}
use Rattle.crossbeam_queue.specs.Passes.{view}
use Rattle.frame_ring.specs.FreeRule.{FreeMoment}
use Rattle.frame_ring.specs.Passes.{frames_in, counts_in}
use Rattle.frame_ring.proofs.Calls.{ring_learns}
use Rattle.frame_ring.proofs.Permuted.{IsPermutation-row}
use Rattle.frame_ring.proofs.Draining.{drains_from, drained_by, whole, once, settled, none_left, rows, balanced}
use Rattle.frame_ring.proofs.ring.FrameRing.drain.Goals as goal

pub pop_as-frame-requires-clause-rule : goal.pop_as-frame-requires-clause-rule
pop_as-frame-requires-clause-rule g c =
    let all = c.gather-all.ensures.all in
    let some_own : 0 < length (frames_in c.args.passes.now) = omega (arith, all.4, all.6) in
    (drains_from _ _ _ _ _ _ _ all.2 some_own, ring_learns _ _)

pub returns-clause-left : goal.returns-clause-left
returns-clause-left g c =
    let told = drained_by c.args.self.now c.args.passes.now c.gather-all.result (view c.pop_as-frame.new.pass) c.pop_as-frame.result c.gather-all.ensures.all c.pop_as-frame.ensures.rule in
    told.left

pub returns-clause-none : goal.returns-clause-none
returns-clause-none g c =
    let told = drained_by c.args.self.now c.args.passes.now c.gather-all.result (view c.pop_as-frame.new.pass) c.pop_as-frame.result c.gather-all.ensures.all c.pop_as-frame.ensures.rule in
    told.none

pub returns-clause-above : goal.returns-clause-above
returns-clause-above g c =
    let told = drained_by c.args.self.now c.args.passes.now c.gather-all.result (view c.pop_as-frame.new.pass) c.pop_as-frame.result c.gather-all.ensures.all c.pop_as-frame.ensures.rule in
    told.above

pub returns-clause-len : goal.returns-clause-len
returns-clause-len g c =
    let told = drained_by c.args.self.now c.args.passes.now c.gather-all.result (view c.pop_as-frame.new.pass) c.pop_as-frame.result c.gather-all.ensures.all c.pop_as-frame.ensures.rule in
    told.short

pub returns-clause-whole : goal.returns-clause-whole
returns-clause-whole g c =
    let told = drained_by c.args.self.now c.args.passes.now c.gather-all.result (view c.pop_as-frame.new.pass) c.pop_as-frame.result c.gather-all.ensures.all c.pop_as-frame.ensures.rule in
    whole _ _ _ _ told.told

pub returns-clause-once : goal.returns-clause-once
returns-clause-once g c =
    let told = drained_by c.args.self.now c.args.passes.now c.gather-all.result (view c.pop_as-frame.new.pass) c.pop_as-frame.result c.gather-all.ensures.all c.pop_as-frame.ensures.rule in
    once _ _ _ _ told.told

pub returns-clause-rows : goal.returns-clause-rows
returns-clause-rows g c =
    let told = drained_by c.args.self.now c.args.passes.now c.gather-all.result (view c.pop_as-frame.new.pass) c.pop_as-frame.result c.gather-all.ensures.all c.pop_as-frame.ensures.rule in
    let rise = rows _ _ _ _ told.told in
    record { offered_rise = rise.0; grabbed_rise = rise.1 }

pub returns-clause-settled : goal.returns-clause-settled
returns-clause-settled g c = λ none.
    let told = drained_by c.args.self.now c.args.passes.now c.gather-all.result (view c.pop_as-frame.new.pass) c.pop_as-frame.result c.gather-all.ensures.all c.pop_as-frame.ensures.rule in
    let end = settled _ _ _ _ told.told (none_left _ _ _ told.left (told.none.0 none)) in
    let rise = rows _ _ _ _ told.told in
    record {
      whole = end.0;
      once = end.1;
      permuted = IsPermutation-row _ _ _ rise.0 end.0;
    }

pub returns-clause-balance : goal.returns-clause-balance
returns-clause-balance g c =
    let told = drained_by c.args.self.now c.args.passes.now c.gather-all.result (view c.pop_as-frame.new.pass) c.pop_as-frame.result c.gather-all.ensures.all c.pop_as-frame.ensures.rule in
    let all = c.gather-all.ensures.all in
    let same = c.learn_as.ensures.queue.1 in
    let held = c.learn_as.ensures.rule in
    let sum = balanced _ _ _ (counts_in c.args.passes.now) (view c.learn_as.new.pass) _ _ _ (same ∙ all.3) all.6 all.5 (held.0, subst (λ v. FreeMoment v held.0) (sym same) held.1) told.told in
    record { free = sum.0; are_free = sum.1; sum = sum.2 }
