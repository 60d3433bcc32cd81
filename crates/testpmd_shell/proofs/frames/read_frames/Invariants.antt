use Rattle.std.proofs.Common.{◌≡◌, ◌+◌, ◌-◌, ◌≤◌, ℕ, List, length, map, true}
use Rattle.capture_files.specs.Record.{Frame}
use Rattle.io_edges.specs.declared.shelf.Slot.TheVariants.{Capture}
use Rattle.io_edges.specs.Lent.{KeepsSlot}
use Rattle.running_phase.specs.Copies.{frame_of}
use Rattle.testpmd_shell.specs.Feed.{IsReady, HasRead}
use Rattle.testpmd_shell.specs.Phase.{AreNumbered, GoesOn}
use Rattle.testpmd_shell.proofs.frames.read_frames.Given as goal

abbrev pub invariant-loop-alloc : goal.invariant-loop-alloc
invariant-loop-alloc g l =
    let state = g.S.Shelf.state in
    record {
      ready : IsReady l.feed;
      opened : (state l.shelf).capture.opened ≡ true;
      goes_on : (content : List ℕ) → (frames : List Frame) → HasRead l.initial.feed (state l.initial.shelf).capture content frames
          → GoesOn (λ more. AreNumbered (l.initial.feed.taken + 1) more l.copies.items) l.initial.left l.left l.initial.feed l.feed (state l.shelf).capture content frames;
      numbered : AreNumbered (l.initial.feed.taken + 1) (map frame_of l.copies.items) l.copies.items;
      counted : l.feed.taken ≡ l.initial.feed.taken + length l.copies.items;
      few : length l.copies.items ≤ 1048576;
      same : l.feed.reader.ended ≡ l.initial.feed.reader.ended;
      calm : (state l.shelf).capture.faults ≡ (state l.initial.shelf).capture.faults;
      ending : l.feed.ending ≡ l.initial.feed.ending;
      keeps : KeepsSlot Capture (state l.initial.shelf) (state l.shelf);
    }

abbrev pub decreases-loop-alloc : goal.decreases-loop-alloc
decreases-loop-alloc g l = 1048576 - l.feed.reader.progress.frames
