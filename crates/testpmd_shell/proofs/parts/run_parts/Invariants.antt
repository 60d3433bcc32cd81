use Rattle.std.proofs.Common.{◌≡◌, ℕ, List, false, drop, is_some}
use Rattle.capture_files.specs.Record.{Frame}
use Rattle.io_edges.specs.declared.shelf.Slot.TheVariants.{Capture}
use Rattle.io_edges.specs.Lent.{KeepsSlot}
use Rattle.whole_history.specs.Reach.{has_phase}
use Rattle.flow_port.specs.Standing.{Stands}
use Rattle.testpmd_shell.specs.Feed.{CarriesFault}
use Rattle.testpmd_shell.specs.Sending.{kept_in}
use Rattle.testpmd_shell.specs.Parts.{IsOpen, WasRead, PartsToGo, ending_in}
use Rattle.testpmd_shell.specs.Ways.{serially}
use Rattle.testpmd_shell.proofs.parts.run_parts.Given as goal

abbrev pub invariant-loop-part : goal.invariant-loop-part
invariant-loop-part g l =
    let state = g.S.Shelf.state in
    record {
      open_feed : IsOpen l.feed (state l.shelf);
      to_go : (content : List ℕ) → (frames : List Frame) → WasRead l.initial.feed (state l.initial.shelf) content frames
          → PartsToGo serially l.program (drop l.part-index l.program) l.initial.feed l.feed (state l.shelf) content frames l.initial.lead.adapter l.lead.adapter (kept_in l.initial.lead) (kept_in l.lead);
      stands : Stands l.lead.adapter.limits l.lead.adapter.history l.lead.replica;
      kept : is_some (kept_in l.lead) ≡ is_some (kept_in l.initial.lead);
      fault : CarriesFault (ending_in l.initial.feed) (ending_in l.feed) (state l.initial.shelf).capture.faults (state l.shelf).capture.faults;
      limits : l.lead.adapter.limits ≡ l.initial.lead.adapter.limits;
      keeps : KeepsSlot Capture (state l.initial.shelf) (state l.shelf);
      unread : has_phase l.program ≡ false → (state l.shelf ≡ state l.initial.shelf) × (has_phase (drop l.part-index l.program) ≡ false);
    }
