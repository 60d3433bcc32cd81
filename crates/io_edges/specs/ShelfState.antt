-- What a shelf tells of itself: what it allows, what was asked for, the bytes and the counts of faults.
use Rattle.std.specs.Prelude.{◌≡◌, ℕ, ◌+◌, Bool, true, false, List, [], Option, Result, MatchResult, is_some, take}
use Rattle.std.specs.Io.KnownBytes.{Appends, Keeps}
use Rattle.std.specs.Option.{option_map}
use Rattle.io_edges.specs.declared.shelf.Slot.{Slot}
use Rattle.io_edges.specs.declared.shelf.Slot.TheVariants.{Script, Capture}
use Rattle.io_edges.specs.Faults.{HasCause}
use Rattle.io_edges.specs.Edge.{Reads, Writes}

-- One of the files that are read: whether it was asked for, whether it is opened, the bytes that it gave out since
-- and those that it has left (each where told), and the count of its failed reads.
pub record SlotState : Type 0 where
  pub asked : Bool
  pub opened : Bool
  pub given : Option (List ℕ)
  pub left : Option (List ℕ)
  pub faults : ℕ

-- The file that is written: as a slot, with the bytes that it took, and its failed openings and writes.
pub record WrittenState : Type 0 where
  pub asked : Bool
  pub opened : Bool
  pub taken : Option (List ℕ)
  pub open_faults : ℕ
  pub faults : ℕ

-- A shelf: the bytes of each name (where told), the names that it allows, its slots, and its failed openings to read.
pub record ShelfState : Type 0 where
  pub contents : List ℕ → Option (List ℕ)
  pub allows_read : Slot → List ℕ → Bool
  pub allows_write : List ℕ → Bool
  pub script : SlotState
  pub capture : SlotState
  pub open_faults : ℕ
  pub written : WrittenState

abbrev pub slot_of : Slot → ShelfState → SlotState
slot_of Script s = s.script
slot_of Capture s = s.capture

abbrev pub with_slot : Slot → ShelfState → SlotState → ShelfState
with_slot Script s slot = record s { script = slot }
with_slot Capture s slot = record s { capture = slot }

-- failed openings to read and failed reads, of both slots
abbrev pub read_faults : ShelfState → ℕ
read_faults s = s.open_faults + s.script.faults + s.capture.faults

-- failed openings to write and failed writes
abbrev pub write_faults : ShelfState → ℕ
write_faults s = s.written.open_faults + s.written.faults

-- A slot that was opened: nothing is given out, and the bytes of the name are left. Where the opening failed it was
-- asked for, and no more.
abbrev pub OpensSlot : {E : Type 0} → Option (List ℕ) → SlotState → SlotState → Result (Unit {0}) E → Type 0
OpensSlot content old new result = MatchResult result
    (λ _. new ≡ record old { asked = true; opened = true; given = option_map (λ _. []) old.given; left = content })
    (λ _. new ≡ record old { asked = true; opened = false })

-- An opening to read changes its slot and the count of failed openings, and nothing else.
pub record OpensRead {E : Type 0} (old new : ShelfState) (slot : Slot) (name : List ℕ) (result : Result (Unit {0}) E) : Type 0 where
  pub opens : OpensSlot (old.contents name) (slot_of slot old) (slot_of slot new) result
  pub others : new ≡ record (with_slot slot old (slot_of slot new)) { open_faults = new.open_faults }
  pub cause : HasCause old.open_faults new.open_faults result

-- A read changes the bytes and the count of its slot.
pub record ReadsSlot {E : Type 0} (old new : SlotState) (result : Result ℕ E) (buf : List ℕ) : Type 0 where
  pub asked : new.asked ≡ old.asked
  pub opened : new.opened ≡ old.opened
  pub left : Reads old.left new.left result buf
  pub given : MatchResult result (λ n. Appends old.given new.given (take n buf)) (λ _. Keeps old.given new.given)
  pub told : is_some new.given ≡ is_some old.given
  pub cause : HasCause old.faults new.faults result

-- A read changes its slot, and nothing else.
pub record ReadsShelf {E : Type 0} (old new : ShelfState) (slot : Slot) (result : Result ℕ E) (buf : List ℕ) : Type 0 where
  pub reads : ReadsSlot (slot_of slot old) (slot_of slot new) result buf
  pub others : new ≡ with_slot slot old (slot_of slot new)

-- The written file was opened: nothing is written. Where the opening failed it was asked for, and no more.
abbrev pub OpensWritten : {E : Type 0} → WrittenState → WrittenState → Result (Unit {0}) E → Type 0
OpensWritten old new result = MatchResult result
    (λ _. new ≡ record old { asked = true; opened = true; taken = option_map (λ _. []) old.taken })
    (λ _. new ≡ record old { asked = true; opened = false; open_faults = new.open_faults })

-- An opening to write changes the written file, and nothing else.
pub record OpensWrite {E : Type 0} (old new : ShelfState) (result : Result (Unit {0}) E) : Type 0 where
  pub opens : OpensWritten old.written new.written result
  pub others : new ≡ record old { written = new.written }
  pub cause : HasCause old.written.open_faults new.written.open_faults result

-- A write changes the bytes and the count of the written file.
pub record WritesFile {E : Type 0} (old new : WrittenState) (result : Result ℕ E) (piece : List ℕ) : Type 0 where
  pub asked : new.asked ≡ old.asked
  pub opened : new.opened ≡ old.opened
  pub openings : new.open_faults ≡ old.open_faults
  pub taken : Writes old.taken new.taken result piece
  pub cause : HasCause old.faults new.faults result

-- A write changes the written file, and nothing else.
pub record WritesShelf {E : Type 0} (old new : ShelfState) (result : Result ℕ E) (piece : List ℕ) : Type 0 where
  pub writes : WritesFile old.written new.written result piece
  pub others : new ≡ record old { written = new.written }
