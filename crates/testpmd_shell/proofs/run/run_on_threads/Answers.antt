use Rattle.std.proofs.Common.{ℕ, ap, ◌∙◌, subst, cond, List, Some, None, [], sym}
use Rattle.capture_files.specs.Record.{Frame}
use Rattle.adapter.specs.Seen.{Seen}
use Rattle.history_text.specs.declared.ending.Ending.{Ending}
use Rattle.testpmd_shell.specs.Feed.{CarriesFault}
use Rattle.testpmd_shell.specs.Parts.{RunsParts, WasRead, ending_in, taken_in}
use Rattle.testpmd_shell.specs.Sending.{records_kept}
use Rattle.testpmd_shell.specs.Ways.{in_any_turns}
use Rattle.testpmd_shell.proofs.Keeping.{some-kept, some-records}
use Rattle.testpmd_shell.proofs.Working.{AreReady-start}
use Rattle.testpmd_shell.proofs.run.run_on_threads.Goals as goal

pub run_parts_on_threads-requires-clause-ready : goal.run_parts_on_threads-requires-clause-ready
run_parts_on_threads-requires-clause-ready g c = λ κs known.
    let adapter = c.in_ok-adapter.ensures in
    let made = c.in_ok-workers.ensures in
    AreReady-start (taken_in c.args.feed) c.args.options.now.cores c.limits_of-2.result c.in_ok-adapter.adapter c.in_ok-workers.workers.replicas.items
    (ap (λ (a : Seen). a.limits) adapter ∙ c.limits_of.ensures ∙ sym c.limits_of-2.ensures) (ap (λ (a : Seen). a.history) adapter) made.count c.requires.workers made.stand

pub returns-clause-finished : goal.returns-clause-finished
returns-clause-finished g c =
    let ran = c.in_ok-adapter-2.ensures in
    let adapter = c.in_ok-adapter.ensures in
    let made = c.in_ok-workers.ensures in
    let start = c.in_ok-workers.workers in
    let new = c.run_parts_on_threads.new in
    let state = g.S.Shelf.state in
    let limits = ap (λ (a : Seen). a.limits) adapter ∙ c.limits_of.ensures in
    let empty = made.kept ∙ ap (λ b. cond b (Some []) None) c.is_named.ensures in
    record {
      feed = new.feed;
      opened = c.in_ok-adapter.adapter;
      none_sent = records_kept start.kept;
      open_feed = ran.open;
      ends = c.ending_of.ensures;
      opening = (limits, ap (λ (a : Seen). a.history) adapter);
      empty = empty;
      limits = ran.limits ∙ limits;
      keeps = some-records new.workers.kept ∙ ran.kept ∙ sym (some-records start.kept) ∙ some-kept c.is_named.result (records_kept start.kept) made.kept ∙ c.is_named.ensures;
      fault = subst (λ (e : Ending). CarriesFault (ending_in c.args.feed) e (state c.args.shelf.now).capture.faults (state new.shelf).capture.faults) (sym c.ending_of.ensures) ran.fault;
      others = ran.keeps;
      runs = subst (λ n. (content : List ℕ) → (frames : List Frame) → WasRead c.args.feed (state c.args.shelf.now) content frames
          → RunsParts (in_any_turns n) c.args.program.now c.args.feed new.feed (state new.shelf) content frames c.in_ok-adapter.adapter c.in_ok-adapter-2.adapter (records_kept start.kept) (records_kept new.workers.kept))
          made.count ran.runs;
    }
