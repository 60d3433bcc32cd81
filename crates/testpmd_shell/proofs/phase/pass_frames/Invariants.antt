use Rattle.std.proofs.Common.{◌≡◌, ◌-◌, ℕ, List, true, is_some}
use Rattle.capture_files.specs.Record.{Frame}
use Rattle.io_edges.specs.declared.shelf.Slot.TheVariants.{Capture}
use Rattle.io_edges.specs.Lent.{KeepsSlot}
use Rattle.flow_port.specs.Standing.{Stands}
use Rattle.testpmd_shell.specs.Feed.{IsReady, HasRead}
use Rattle.testpmd_shell.specs.Phase.{AreEntered, GoesOn}
use Rattle.testpmd_shell.specs.Sending.{kept_in}
use Rattle.testpmd_shell.proofs.phase.pass_frames.Given as goal

abbrev pub invariant-loop-left : goal.invariant-loop-left
invariant-loop-left g l =
    let state = g.S.Shelf.state in
    record {
      ready : IsReady l.feed;
      opened : (state l.shelf).capture.opened ≡ true;
      goes_on : (content : List ℕ) → (frames : List Frame) → HasRead l.initial.feed (state l.initial.shelf).capture content frames
          → GoesOn (AreEntered l.initial.feed.taken frames l.initial.lead.adapter l.lead.adapter (kept_in l.initial.lead) (kept_in l.lead))
          l.initial.left l.left l.initial.feed l.feed (state l.shelf).capture content frames;
      stands : Stands l.lead.adapter.limits l.lead.adapter.history l.lead.replica;
      kept : is_some (kept_in l.lead) ≡ is_some (kept_in l.initial.lead);
      same : l.feed.reader.ended ≡ l.initial.feed.reader.ended;
      calm : (state l.shelf).capture.faults ≡ (state l.initial.shelf).capture.faults;
      ending : l.feed.ending ≡ l.initial.feed.ending;
      limits : l.lead.adapter.limits ≡ l.initial.lead.adapter.limits;
      keeps : KeepsSlot Capture (state l.initial.shelf) (state l.shelf);
    }

abbrev pub decreases-loop-left : goal.decreases-loop-left
decreases-loop-left g l = 1048576 - l.feed.reader.progress.frames
