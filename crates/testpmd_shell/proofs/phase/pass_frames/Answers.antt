use Rattle.std.proofs.Common.{ℕ, List, Option, None, Some, is_some, ap, ◌≡◌, ◌+◌, [], ◌∷◌, ◌++◌, length, take, false, refl, sym, subst, ◌∙◌, inl, inr, rules, arith}
use Rattle.io_edges.specs.declared.shelf.Slot.TheVariants.{Capture}
use Rattle.io_edges.specs.LentLaws.{KeepsSlot-none}
use Rattle.adapter.specs.Seen.{Grows}
use Rattle.adapter.specs.History.{passed_by}
use Rattle.whole_history.specs.Serial.{caller_at}
use Rattle.testpmd_shell.specs.Feed.{IsFaultOf}
use Rattle.testpmd_shell.specs.Phase.{AreEntered, GoesOn, parcel_at}
use Rattle.testpmd_shell.specs.Sending.{kept_in, flows_now, sent_by}
use Rattle.std.specs.Io.KnownBytes.{append_known}
use Rattle.testpmd_shell.proofs.Passing.{AreEntered-next, AreEntered-none, GoesOn-none, GoesOn-next, Takes-here, Takes-ended}
use Rattle.testpmd_shell.proofs.phase.pass_frames.Goals as goal

is_some-append : (old new : Option (List ℕ)) (bytes : List ℕ) → new ≡ append_known old bytes → is_some new ≡ is_some old
is_some-append None new bytes e = ap is_some e
is_some-append (Some xs) new bytes e = ap is_some e

pub loop-left-init : goal.loop-left-init
loop-left-init g c = record {
  ready = c.requires.ready;
  opened = c.requires.opened;
  goes_on = λ content frames has.
      GoesOn-none content frames (AreEntered c.args.feed.now.taken frames c.args.lead.now.adapter c.args.lead.now.adapter (kept_in c.args.lead.now) (kept_in c.args.lead.now)) c.args.count c.args.feed.now
      (g.S.Shelf.state c.args.shelf.now).capture (AreEntered-none c.args.feed.now.taken frames c.args.lead.now.adapter (kept_in c.args.lead.now)) has;
  stands = c.requires.stands;
  kept = refl;
  same = refl;
  calm = refl;
  ending = refl;
  limits = refl;
  keeps = KeepsSlot-none Capture (g.S.Shelf.state c.args.shelf.now);
}

pub returns-in_default-clause-takes : goal.returns-in_default-clause-takes
returns-in_default-clause-takes g c content frames has =
    let so_far = c.loop-left.invariant.goes_on content frames has in
    Takes-ended content frames (AreEntered c.args.feed.now.taken frames c.args.lead.now.adapter c.loop-left.lead.adapter (kept_in c.args.lead.now) (kept_in c.loop-left.lead))
    c.args.count c.loop-left.left c.args.feed.now c.loop-left.feed c.next_frame.new.feed (g.S.Shelf.state c.loop-left.shelf).capture (g.S.Shelf.state c.next_frame.new.shelf).capture
    so_far (sym c.if-not-spent.ensures) (c.in_default.ensures.reads content (frames ++ so_far.takes.more) so_far.takes.read) c.in_default.ensures.counts.0 c.in_default.ensures.counts.1

pub loop-left-smaller : goal.loop-left-smaller
loop-left-smaller g c =
    let running : c.loop-left.feed.reader.ended ≡ false = sym c.loop-left-test.ensures in
    let counts = c.in-Some.ensures.counts in
    let before = c.loop-left.invariant.ready.counted running in
    let after = c.in-Some.ensures.ready.counted counts.2 in
    omega arith

pub loop-left-preserved : goal.loop-left-preserved
loop-left-preserved g c =
    let running : c.loop-left.feed.reader.ended ≡ false = sym c.loop-left-test.ensures in
    let started : c.args.feed.now.reader.ended ≡ false = sym c.loop-left.invariant.same ∙ running in
    let counts = c.in-Some.ensures.counts in
    let before = c.loop-left.invariant.ready.going_on running in
    let after = c.in-Some.ensures.ready.going_on counts.2 in
    record {
      ready = c.in-Some.ensures.ready;
      opened = c.in-Some.ensures.keeps.opened ∙ c.loop-left.invariant.opened;
      goes_on = λ content frames has.
          let so_far = c.loop-left.invariant.goes_on content frames has in
          let taken = c.args.feed.now.taken in
          let start = c.args.lead.now.adapter in
          let mid = c.loop-left.lead.adapter in
          let last = c.pass.new.self.adapter in
          let first = kept_in c.args.lead.now in
          let bytes = take c.in-Some.arrived.len c.next_frame.new.feed.buffer.items in
          let enters = subst (λ bytes. Grows mid last
          (passed_by mid.limits mid.history (caller_at 9) (parcel_at c.next_frame.new.feed.taken (take c.in-Some.arrived.len bytes)) ∷ []))
          c.deref.ensures.value c.in_ok-pass.ensures.enters in
          let sends = subst (λ bytes. kept_in c.pass.new.self ≡ append_known (kept_in c.loop-left.lead) (sent_by (flows_now mid) c.in-Some.arrived (take c.in-Some.arrived.len bytes)))
          c.deref.ensures.value c.in_ok-pass.ensures.kept in
          let number : c.next_frame.new.feed.taken ≡ (taken + length so_far.takes.more) + 1 = counts.0 ∙ ap (λ n. n + 1) so_far.takes.counted in
          let entered = AreEntered-next taken c.next_frame.new.feed.taken frames so_far.takes.more c.in-Some.arrived bytes start mid last first (kept_in c.loop-left.lead) (kept_in c.pass.new.self)
          so_far.takes.dealt number enters sends in
          subst (λ left. GoesOn (AreEntered taken frames start last first (kept_in c.pass.new.self)) c.args.count left c.args.feed.now c.next_frame.new.feed (g.S.Shelf.state c.next_frame.new.shelf).capture content frames)
          (sym c.behind_one-left.ensures)
          (GoesOn-next content frames (AreEntered taken frames start mid first (kept_in c.loop-left.lead)) (AreEntered taken frames start last first (kept_in c.pass.new.self))
          c.args.count c.loop-left.left c.args.feed.now c.loop-left.feed c.next_frame.new.feed (g.S.Shelf.state c.loop-left.shelf).capture (g.S.Shelf.state c.next_frame.new.shelf).capture c.in-Some.arrived
          so_far started (sym c.if-not-spent.ensures) (c.in-Some.ensures.reads content (frames ++ so_far.takes.more) so_far.takes.read) counts.0 entered);
      stands = c.in_ok-pass.ensures.stands;
      kept = is_some-append _ _ _ c.in_ok-pass.ensures.kept ∙ c.loop-left.invariant.kept;
      same = counts.2 ∙ sym started;
      calm = subst (λ ending. IsFaultOf ending (g.S.Shelf.state c.loop-left.shelf).capture.faults (g.S.Shelf.state c.next_frame.new.shelf).capture.faults) after c.in-Some.ensures.fault
          ∙ c.loop-left.invariant.calm;
      ending = after ∙ sym before ∙ c.loop-left.invariant.ending;
      limits = c.in_ok-pass.ensures.limits ∙ c.loop-left.invariant.limits;
      keeps = search rules;
    }

pub returns-else-not-spent-clause-takes : goal.returns-else-not-spent-clause-takes
returns-else-not-spent-clause-takes g c content frames has =
    Takes-here content frames (AreEntered c.args.feed.now.taken frames c.args.lead.now.adapter c.loop-left.lead.adapter (kept_in c.args.lead.now) (kept_in c.loop-left.lead))
    c.args.count c.loop-left.left c.args.feed.now c.loop-left.feed c.loop-left.feed (g.S.Shelf.state c.loop-left.shelf).capture (g.S.Shelf.state c.loop-left.shelf).capture
    (c.loop-left.invariant.goes_on content frames has) c.loop-left.invariant.same (inr (sym c.if-not-spent.ensures))

pub returns-after-loop-left-clause-takes : goal.returns-after-loop-left-clause-takes
returns-after-loop-left-clause-takes g c content frames has =
    Takes-here content frames (AreEntered c.args.feed.now.taken frames c.args.lead.now.adapter c.loop-left.lead.adapter (kept_in c.args.lead.now) (kept_in c.loop-left.lead))
    c.args.count c.loop-left.left c.args.feed.now c.loop-left.feed c.loop-left.feed (g.S.Shelf.state c.loop-left.shelf).capture (g.S.Shelf.state c.loop-left.shelf).capture
    (c.loop-left.invariant.goes_on content frames has) c.loop-left.invariant.same (inl (sym c.loop-left-test.ensures))
