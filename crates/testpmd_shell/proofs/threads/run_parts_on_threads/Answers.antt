use Rattle.std.proofs.Common.{◌≡◌, ◌≤◌, ◌+◌, List, [], ◌∷◌, ◌++◌, drop, length, ◌∙◌, refl, sym, ap, subst, arith}
use Rattle.std.proofs.lemmas.List.{at_drop_more, drop_all}
use Rattle.io_edges.specs.declared.shelf.Slot.TheVariants.{Capture}
use Rattle.io_edges.specs.LentLaws.{KeepsSlot-none, KeepsSlot-more}
use Rattle.flow_grammar.specs.declared.part.Part.{Part}
use Rattle.flow_grammar.specs.Limits.{calls_in}
use Rattle.whole_history.specs.Reach.{has_phase}
use Rattle.testpmd_shell.specs.Sending.{records_kept}
use Rattle.testpmd_shell.specs.Parts.{PartsToGo, RunsPart}
use Rattle.testpmd_shell.specs.Ways.{in_any_turns}
use Rattle.testpmd_shell.proofs.PartsRun.{PartsToGo-next, PartsToGo-start, RunsParts-end, no_phase}
use Rattle.testpmd_shell.proofs.Working.{few-part}
use Rattle.testpmd_shell.proofs.threads.run_parts_on_threads.Goals as goal

pub loop-part-init : goal.loop-part-init
loop-part-init g c =
    let state = g.S.Shelf.state c.args.shelf.now in
    let way = in_any_turns (length c.args.workers.now.replicas.items) in
    record {
      open_feed = c.requires.open;
      to_go = λ content frames was. PartsToGo-start way c.args.program.now c.args.feed.now content frames c.args.adapter state (records_kept c.args.workers.now.kept) was;
      ready = c.requires.ready;
      count = refl;
      few = c.requires.few;
      kept = refl;
      fault = λ base so_far. so_far;
      limits = refl;
      keeps = KeepsSlot-none Capture state;
      unread = λ none. (refl, none);
    }

pub run_part-requires-clause-few : goal.run_part-requires-clause-few
run_part-requires-clause-few g c = λ κs known.
    let program = c.args.program.now in
    let part = c.part-item.result in
    let others = drop (c.loop-part.part-index + 1) program in
    let now = at_drop_more (λ (ps : List Part). ps) program c.loop-part.part-index part c.loop-part-test.true ∙ ap (λ p. p ∷ others) (sym c.part-item.is) in
    (few-part part others (subst (λ ps. calls_in ps ≤ 65536) now c.loop-part.invariant.few)).0

pub loop-part-preserved : goal.loop-part-preserved
loop-part-preserved g c =
    let state = g.S.Shelf.state in
    let program = c.args.program.now in
    let part = c.part-item.result in
    let others = drop (c.loop-part.part-index + 1) program in
    let way = in_any_turns (length c.args.workers.now.replicas.items) in
    let start = c.args.feed.now in
    let first = records_kept c.args.workers.now.kept in
    let mid = c.loop-part.workers in
    let new = c.run_part.new.workers in
    let ran = c.in_ok-adapter.ensures in
    let so_far = c.loop-part.invariant in
    let now : drop c.loop-part.part-index program ≡ part ∷ others =
    at_drop_more (λ (ps : List Part). ps) program c.loop-part.part-index part c.loop-part-test.true ∙ ap (λ p. p ∷ others) (sym c.part-item.is) in
    record {
      open_feed = ran.open;
      to_go = λ content frames was.
          let before : PartsToGo way program (part ∷ others) start c.loop-part.feed (state c.loop-part.shelf) content frames c.args.adapter c.loop-part.adapter first (records_kept mid.kept) =
          subst (λ ps. PartsToGo way program ps start c.loop-part.feed (state c.loop-part.shelf) content frames c.args.adapter c.loop-part.adapter first (records_kept mid.kept)) now
          (so_far.to_go content frames was) in
          let here = subst (λ n. RunsPart (in_any_turns n) part c.loop-part.feed c.run_part.new.feed (state c.run_part.new.shelf) content (frames ++ before.more) c.loop-part.adapter c.in_ok-adapter.adapter
          (records_kept mid.kept) (records_kept new.kept)) so_far.count (ran.runs content (frames ++ before.more) before.read) in
          PartsToGo-next way program start content frames c.args.adapter part others c.loop-part.feed c.run_part.new.feed (state c.loop-part.shelf) (state c.run_part.new.shelf)
          c.loop-part.adapter c.in_ok-adapter.adapter first (records_kept mid.kept) (records_kept new.kept) before so_far.limits here;
      ready = ran.ready;
      count = ran.count ∙ so_far.count;
      few = (few-part part others (subst (λ ps. calls_in ps ≤ 65536) now so_far.few)).1;
      kept = ran.kept ∙ so_far.kept;
      fault = λ base faults. ran.fault base (so_far.fault base faults);
      limits = ran.limits ∙ so_far.limits;
      keeps = KeepsSlot-more Capture Capture (state c.args.shelf.now) (state c.loop-part.shelf) (state c.run_part.new.shelf) refl so_far.keeps ran.keeps;
      unread = λ none.
          let before = so_far.unread none in
          let here = no_phase part others (ap has_phase (sym now) ∙ before.1) in
          (ran.unread here.0 ∙ before.0, here.1);
    }

pub returns-in_err-adapter-clause-unread : goal.returns-in_err-adapter-clause-unread
returns-in_err-adapter-clause-unread g c none =
    let program = c.args.program.now in
    let part = c.part-item.result in
    let others = drop (c.loop-part.part-index + 1) program in
    let now = at_drop_more (λ (ps : List Part). ps) program c.loop-part.part-index part c.loop-part-test.true ∙ ap (λ p. p ∷ others) (sym c.part-item.is) in
    let before = c.loop-part.invariant.unread none in
    let here = no_phase part others (ap has_phase (sym now) ∙ before.1) in
    c.run_part.ensures.unread here.0 ∙ before.0

pub returns-clause-runs : goal.returns-clause-runs
returns-clause-runs g c content frames was =
    let state = g.S.Shelf.state c.loop-part.shelf in
    let program = c.args.program.now in
    let way = in_any_turns (length c.args.workers.now.replicas.items) in
    let start = c.args.feed.now in
    let first = records_kept c.args.workers.now.kept in
    let last = records_kept c.loop-part.workers.kept in
    let none : drop c.loop-part.part-index program ≡ [] = drop_all c.loop-part.part-index program (omega (arith, c.loop-part-test.false)) in
    RunsParts-end way program start content frames c.args.adapter c.loop-part.feed state c.loop-part.adapter first last
    (subst (λ ps. PartsToGo way program ps start c.loop-part.feed state content frames c.args.adapter c.loop-part.adapter first last) none (c.loop-part.invariant.to_go content frames was))
