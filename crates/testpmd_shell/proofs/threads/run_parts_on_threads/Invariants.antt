use Rattle.std.proofs.Common.{◌≡◌, ◌≤◌, ℕ, List, false, drop, is_some, length}
use Rattle.capture_files.specs.Record.{Frame}
use Rattle.io_edges.specs.declared.shelf.Slot.TheVariants.{Capture}
use Rattle.io_edges.specs.Lent.{KeepsSlot}
use Rattle.flow_grammar.specs.Limits.{calls_in}
use Rattle.whole_history.specs.Reach.{has_phase}
use Rattle.testpmd_shell.specs.Feed.{CarriesFault}
use Rattle.testpmd_shell.specs.Sending.{records_kept}
use Rattle.testpmd_shell.specs.Parts.{IsOpen, WasRead, PartsToGo, ending_in, taken_in}
use Rattle.testpmd_shell.specs.Ways.{in_any_turns}
use Rattle.testpmd_shell.specs.Workers.{AreReady}
use Rattle.testpmd_shell.proofs.threads.run_parts_on_threads.Given as goal

abbrev pub invariant-loop-part : goal.invariant-loop-part
invariant-loop-part g l =
    let state = g.S.Shelf.state in
    record {
      open_feed : IsOpen l.feed (state l.shelf);
      to_go : (content : List ℕ) → (frames : List Frame) → WasRead l.initial.feed (state l.initial.shelf) content frames
          → PartsToGo (in_any_turns (length l.initial.workers.replicas.items)) l.program (drop l.part-index l.program) l.initial.feed l.feed (state l.shelf) content frames
          l.initial.adapter l.adapter (records_kept l.initial.workers.kept) (records_kept l.workers.kept);
      ready : AreReady (taken_in l.feed) l.adapter l.workers.replicas.items;
      count : length l.workers.replicas.items ≡ length l.initial.workers.replicas.items;
      few : calls_in (drop l.part-index l.program) ≤ 65536;
      kept : is_some l.workers.kept ≡ is_some l.initial.workers.kept;
      fault : CarriesFault (ending_in l.initial.feed) (ending_in l.feed) (state l.initial.shelf).capture.faults (state l.shelf).capture.faults;
      limits : l.adapter.limits ≡ l.initial.adapter.limits;
      keeps : KeepsSlot Capture (state l.initial.shelf) (state l.shelf);
      unread : has_phase l.program ≡ false → (state l.shelf ≡ state l.initial.shelf) × (has_phase (drop l.part-index l.program) ≡ false);
    }
