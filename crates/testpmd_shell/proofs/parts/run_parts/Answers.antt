use Rattle.std.proofs.Common.{◌≡◌, ◌+◌, List, [], ◌∷◌, ◌++◌, drop, ◌∙◌, refl, sym, ap, subst, arith}
use Rattle.std.proofs.lemmas.List.{at_drop_more, drop_all}
use Rattle.io_edges.specs.declared.shelf.Slot.TheVariants.{Capture}
use Rattle.io_edges.specs.LentLaws.{KeepsSlot-none, KeepsSlot-more}
use Rattle.flow_grammar.specs.declared.part.Part.{Part}
use Rattle.whole_history.specs.Reach.{has_phase}
use Rattle.testpmd_shell.specs.Sending.{kept_in}
use Rattle.testpmd_shell.specs.Parts.{PartsToGo}
use Rattle.testpmd_shell.specs.Ways.{serially}
use Rattle.testpmd_shell.proofs.PartsRun.{PartsToGo-next, PartsToGo-start, RunsParts-end, no_phase}
use Rattle.testpmd_shell.proofs.parts.run_parts.Goals as goal

pub loop-part-init : goal.loop-part-init
loop-part-init g c =
    let state = g.S.Shelf.state c.args.shelf.now in
    record {
      open_feed = c.requires.open;
      to_go = λ content frames was. PartsToGo-start serially c.args.program.now c.args.feed.now content frames c.args.lead.now.adapter state (kept_in c.args.lead.now) was;
      stands = c.requires.stands;
      kept = refl;
      fault = λ base so_far. so_far;
      limits = refl;
      keeps = KeepsSlot-none Capture state;
      unread = λ none. (refl, none);
    }

pub loop-part-preserved : goal.loop-part-preserved
loop-part-preserved g c =
    let state = g.S.Shelf.state in
    let program = c.args.program.now in
    let part = c.part-item.result in
    let others = drop (c.loop-part.part-index + 1) program in
    let now : drop c.loop-part.part-index program ≡ part ∷ others =
    at_drop_more (λ (ps : List Part). ps) program c.loop-part.part-index part c.loop-part-test.true ∙ ap (λ p. p ∷ others) (sym c.part-item.is) in
    record {
      open_feed = c.in_ok-run_part.ensures.open;
      to_go = λ content frames was.
          let so_far : PartsToGo serially program (part ∷ others) c.args.feed.now c.loop-part.feed (state c.loop-part.shelf) content frames c.args.lead.now.adapter c.loop-part.lead.adapter (kept_in c.args.lead.now) (kept_in c.loop-part.lead) =
          subst (λ ps. PartsToGo serially program ps c.args.feed.now c.loop-part.feed (state c.loop-part.shelf) content frames c.args.lead.now.adapter c.loop-part.lead.adapter (kept_in c.args.lead.now) (kept_in c.loop-part.lead)) now
          (c.loop-part.invariant.to_go content frames was) in
          PartsToGo-next serially program c.args.feed.now content frames c.args.lead.now.adapter part others c.loop-part.feed c.run_part.new.feed (state c.loop-part.shelf) (state c.run_part.new.shelf)
          c.loop-part.lead.adapter c.run_part.new.lead.adapter (kept_in c.args.lead.now) (kept_in c.loop-part.lead) (kept_in c.run_part.new.lead) so_far c.loop-part.invariant.limits
          (c.in_ok-run_part.ensures.runs content (frames ++ so_far.more) so_far.read);
      stands = c.in_ok-run_part.ensures.stands;
      kept = c.in_ok-run_part.ensures.kept ∙ c.loop-part.invariant.kept;
      fault = λ base so_far. c.in_ok-run_part.ensures.fault base (c.loop-part.invariant.fault base so_far);
      limits = c.in_ok-run_part.ensures.limits ∙ c.loop-part.invariant.limits;
      keeps = KeepsSlot-more Capture Capture (state c.args.shelf.now) (state c.loop-part.shelf) (state c.run_part.new.shelf) refl c.loop-part.invariant.keeps c.in_ok-run_part.ensures.keeps;
      unread = λ none.
          let so_far = c.loop-part.invariant.unread none in
          let here = no_phase part others (ap has_phase (sym now) ∙ so_far.1) in
          (c.in_ok-run_part.ensures.unread here.0 ∙ so_far.0, here.1);
    }

pub returns-clause-runs : goal.returns-clause-runs
returns-clause-runs g c content frames was =
    let state = g.S.Shelf.state c.loop-part.shelf in
    let program = c.args.program.now in
    let start = c.args.feed.now in
    let old = c.args.lead.now in
    let new = c.loop-part.lead in
    let none : drop c.loop-part.part-index program ≡ [] = drop_all c.loop-part.part-index program (omega (arith, c.loop-part-test.false)) in
    RunsParts-end serially program start content frames old.adapter c.loop-part.feed state new.adapter (kept_in old) (kept_in new)
    (subst (λ ps. PartsToGo serially program ps start c.loop-part.feed state content frames old.adapter new.adapter (kept_in old) (kept_in new)) none
    (c.loop-part.invariant.to_go content frames was))
