use Rattle.std.proofs.Common.{List, ap, ◌≡◌, ◌+◌, [], ◌∷◌, ◌++◌, length, map, take, false, refl, sym, subst, ◌∙◌, inl, inr, rules, arith, length-append}
use Rattle.io_edges.specs.declared.shelf.Slot.TheVariants.{Capture}
use Rattle.io_edges.specs.LentLaws.{KeepsSlot-none}
use Rattle.std.proofs.lemmas.List.{length-map, map-append}
use Rattle.running_phase.specs.declared.copies.FrameCopy.{FrameCopy}
use Rattle.running_phase.specs.Copies.{frame_of}
use Rattle.testpmd_shell.specs.Feed.{IsFaultOf, frame_in}
use Rattle.testpmd_shell.specs.Phase.{AreNumbered, GoesOn}
use Rattle.testpmd_shell.proofs.Passing.{AreNumbered-next, GoesOn-none, GoesOn-next, Takes-here, Takes-ended}
use Rattle.testpmd_shell.proofs.frames.read_frames.Goals as goal
use Rattle.testpmd_shell.proofs.frames.read_frames.Goals.{then-loop-alloc-test+else-not-spent, else-loop-alloc-test}

pub loop-alloc-init : goal.loop-alloc-init
loop-alloc-init g c =
    let empty = c.new-copies.ensures.items in
    let none : length c.new-copies.result.items ≡ 0 = ap length empty in
    record {
      ready = c.requires.ready;
      opened = c.requires.opened;
      goes_on = λ content frames has.
          GoesOn-none content frames (λ more. AreNumbered (c.args.feed.now.taken + 1) more c.new-copies.result.items) c.args.count c.args.feed.now (g.S.Shelf.state c.args.shelf.now).capture
          (subst (AreNumbered (c.args.feed.now.taken + 1) []) (sym empty) tt) has;
      numbered = subst (λ (cs : List FrameCopy). AreNumbered (c.args.feed.now.taken + 1) (map frame_of cs) cs) (sym empty) tt;
      counted = omega (arith, none);
      few = omega (arith, none);
      same = refl;
      calm = refl;
      ending = refl;
      keeps = KeepsSlot-none Capture (g.S.Shelf.state c.args.shelf.now);
    }

pub returns-in_default-clause-takes : goal.returns-in_default-clause-takes
returns-in_default-clause-takes g c content frames has =
    let so_far = c.loop-alloc.invariant.goes_on content frames has in
    Takes-ended content frames (λ more. AreNumbered (c.args.feed.now.taken + 1) more c.loop-alloc.copies.items)
    c.args.count c.loop-alloc.left c.args.feed.now c.loop-alloc.feed c.next_frame.new.feed (g.S.Shelf.state c.loop-alloc.shelf).capture (g.S.Shelf.state c.next_frame.new.shelf).capture
    so_far (sym c.if-not-spent.ensures) (c.in_default.ensures.reads content (frames ++ so_far.takes.more) so_far.takes.read) c.in_default.ensures.counts.0 c.in_default.ensures.counts.1

pub loop-alloc-smaller : goal.loop-alloc-smaller
loop-alloc-smaller g c =
    let running : c.loop-alloc.feed.reader.ended ≡ false = sym c.loop-alloc-test.ensures in
    let counts = c.in-Some.ensures.counts in
    let before = c.loop-alloc.invariant.ready.counted running in
    let after = c.in-Some.ensures.ready.counted counts.2 in
    omega arith

pub loop-alloc-preserved : goal.loop-alloc-preserved
loop-alloc-preserved g c =
    let running : c.loop-alloc.feed.reader.ended ≡ false = sym c.loop-alloc-test.ensures in
    let started : c.args.feed.now.reader.ended ≡ false = sym c.loop-alloc.invariant.same ∙ running in
    let counts = c.in-Some.ensures.counts in
    let before = c.loop-alloc.invariant.ready.going_on running in
    let after = c.in-Some.ensures.ready.going_on counts.2 in
    let copies = c.loop-alloc.copies.items in
    let copy = c.in_ok-copy.copy in
    let first = c.args.feed.now.taken + 1 in
    let pushed = c.in_ok-push.ensures.items in
    let longer : length c.push.new.self.items ≡ length copies + 1 = ap length pushed ∙ length-append copies (copy ∷ []) in
    let counted = c.loop-alloc.invariant.counted in
    record {
      ready = c.in-Some.ensures.ready;
      opened = c.in-Some.ensures.keeps.opened ∙ c.loop-alloc.invariant.opened;
      goes_on = λ content frames has.
          let so_far = c.loop-alloc.invariant.goes_on content frames has in
          let more = so_far.takes.more in
          let frame = frame_in c.in-Some.arrived (take c.in-Some.arrived.len c.next_frame.new.feed.buffer.items) in
          let is : frame_of copy ≡ frame =
          subst (λ bytes. frame_of copy ≡ frame_in c.in-Some.arrived (take c.in-Some.arrived.len bytes)) c.deref.ensures.value c.in_ok-copy.ensures.frame in
          let taken = so_far.takes.counted in
          let number : copy.number ≡ first + length more = omega (arith, c.in_ok-copy.ensures.number, counts.0, taken) in
          let numbered = subst (AreNumbered first (more ++ frame ∷ [])) (sym pushed) (AreNumbered-next first more frame copies copy so_far.takes.dealt number is) in
          subst (λ left. GoesOn (λ more. AreNumbered first more c.push.new.self.items) c.args.count left c.args.feed.now c.next_frame.new.feed (g.S.Shelf.state c.next_frame.new.shelf).capture content frames)
          (sym c.behind_one-left.ensures)
          (GoesOn-next content frames (λ more. AreNumbered first more copies) (λ more. AreNumbered first more c.push.new.self.items)
          c.args.count c.loop-alloc.left c.args.feed.now c.loop-alloc.feed c.next_frame.new.feed (g.S.Shelf.state c.loop-alloc.shelf).capture (g.S.Shelf.state c.next_frame.new.shelf).capture c.in-Some.arrived
          so_far started (sym c.if-not-spent.ensures) (c.in-Some.ensures.reads content (frames ++ more) so_far.takes.read) counts.0 numbered);
      numbered = subst (λ (cs : List FrameCopy). AreNumbered first (map frame_of cs) cs) (sym pushed)
          (subst (λ fs. AreNumbered first fs (copies ++ copy ∷ [])) (sym (map-append frame_of copies (copy ∷ [])))
          (AreNumbered-next first (map frame_of copies) (frame_of copy) copies copy c.loop-alloc.invariant.numbered
          (let number : copy.number ≡ first + length (map frame_of copies) = omega (arith, c.in_ok-copy.ensures.number, counts.0, counted, length-map copies frame_of) in number) refl));
      counted = omega (arith, counts.0, counted, longer);
      few = omega (arith, counts.0, counts.1, counted, longer);
      same = counts.2 ∙ sym started;
      calm = subst (λ ending. IsFaultOf ending (g.S.Shelf.state c.loop-alloc.shelf).capture.faults (g.S.Shelf.state c.next_frame.new.shelf).capture.faults) after c.in-Some.ensures.fault
          ∙ c.loop-alloc.invariant.calm;
      ending = after ∙ sym before ∙ c.loop-alloc.invariant.ending;
      keeps = search rules;
    }

pub returns-clause-takes : goal.returns-clause-takes
returns-clause-takes g c content frames has =
    let slot = (g.S.Shelf.state c.loop-alloc.shelf).capture in
    Takes-here content frames (λ more. AreNumbered (c.args.feed.now.taken + 1) more c.loop-alloc.copies.items) c.args.count c.loop-alloc.left c.args.feed.now c.loop-alloc.feed c.loop-alloc.feed slot slot
    (c.loop-alloc.invariant.goes_on content frames has) c.loop-alloc.invariant.same
    (elim c.loop-alloc-test.branch [
      | then-loop-alloc-test+else-not-spent w ↦ inr (sym w.if-not-spent.ensures)
      | else-loop-alloc-test w ↦ inl (sym w.loop-alloc-test.ensures)
    ])
