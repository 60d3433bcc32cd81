-- What is told of a shelf in memory, and exactly what each call on it does.
use Rattle.std.specs.Prelude.{◌≡◌, ℕ, ◌+◌, ◌==◌, Bool, true, false, List, [], length, Option, None, Some, Result, MatchResult, is_some, if◌then◌else◌}
use Rattle.std.specs.Int.{from_bool}
use Rattle.std.specs.List.{find, list_any}
use Rattle.std.specs.Option.{option_map}
use Rattle.std.specs.Str.{bytes_eq}
use Rattle.io_edges.specs.declared.shelf.Slot.{Slot}
use Rattle.io_edges.specs.declared.shelf.Slot.TheVariants.{Script, Capture}
use Rattle.io_edges.specs.MemSinkState.{MemSinkState, WritesExactly}
use Rattle.io_edges.specs.Plan.{one_more}
use Rattle.io_edges.specs.Reading.{Reading, ReadsExactly}
use Rattle.io_edges.specs.ShelfState.{ShelfState, SlotState}

-- One of the files that are read: whether it was asked for, whether it is opened, and its bytes with their fault.
pub record MemSlotState : Type 0 where
  pub asked : Bool
  pub opened : Bool
  pub reading : Reading

-- a slot that wasn't asked for
abbrev pub unasked_slot : Option ℕ → MemSlotState
unasked_slot fail_at = record {
  asked = false;
  opened = false;
  reading = record { given = []; left = []; fail_at = fail_at; faults = 0 };
}

-- Its files, each with name and bytes; the openings that fail, by number; its slots and failed openings to read; and
-- whether the written file was asked for and is opened, its failed openings, and its bytes with their fault.
pub record MemShelfState : Type 0 where
  pub files : List (List ℕ × List ℕ)
  pub opens : List ℕ
  pub script : MemSlotState
  pub capture : MemSlotState
  pub open_faults : ℕ
  pub write_asked : Bool
  pub write_opened : Bool
  pub write_open_faults : ℕ
  pub sink : MemSinkState

-- a shelf of which nothing was asked for: its files, the openings that fail, the room of the written file, and the
-- places where reads of the script and the capture and writes fail
abbrev pub unasked_shelf : List (List ℕ × List ℕ) → List ℕ → ℕ → Option ℕ → Option ℕ → Option ℕ → MemShelfState
unasked_shelf files opens room script_at capture_at tx_at = record {
  files = files;
  opens = opens;
  script = unasked_slot script_at;
  capture = unasked_slot capture_at;
  open_faults = 0;
  write_asked = false;
  write_opened = false;
  write_open_faults = 0;
  sink = record { taken = []; room = room; fail_at = tx_at; faults = 0 };
}

-- the bytes of the first file of that name
abbrev pub file_named : List ℕ → List (List ℕ × List ℕ) → Option (List ℕ)
file_named name files = option_map (λ f. f.1) (find (λ f. bytes_eq f.0 name) files)

-- how many openings there were, to read and to write
abbrev pub openings : MemShelfState → ℕ
openings s = from_bool s.script.asked + from_bool s.capture.asked + from_bool s.write_asked

-- the next opening was planned to fail
abbrev pub opening_fails : MemShelfState → Bool
opening_fails s = list_any (λ n. n == openings s) s.opens

-- the bytes that the next opening opens, where it is one to read that name and doesn't fail
abbrev pub opened_bytes : MemShelfState → List ℕ → Option (List ℕ)
opened_bytes s name = if opening_fails s then None else file_named name s.files

abbrev pub mem_slot : Slot → MemShelfState → MemSlotState
mem_slot Script s = s.script
mem_slot Capture s = s.capture

abbrev pub with_mem_slot : Slot → MemShelfState → MemSlotState → MemShelfState
with_mem_slot Script s slot = record s { script = slot }
with_mem_slot Capture s slot = record s { capture = slot }

-- a slot behind an opening of these bytes, or behind a failed one
abbrev pub opened_slot : MemSlotState → Option (List ℕ) → MemSlotState
opened_slot s None = record s { asked = true; opened = false }
opened_slot s (Some bytes) = record s { asked = true; opened = true; reading = record s.reading { given = []; left = bytes } }

-- An opening to read fails exactly where that was planned or no file has that name.
abbrev pub OpensReadExactly : {E : Type 0} → MemShelfState → MemShelfState → Slot → List ℕ → Result (Unit {0}) E → Type 0
OpensReadExactly old new slot name result = MatchResult result
    (λ _. (is_some (opened_bytes old name) ≡ true)
    × (new ≡ with_mem_slot slot old (opened_slot (mem_slot slot old) (opened_bytes old name))))
    (λ _. (is_some (opened_bytes old name) ≡ false)
    × (new ≡ record (with_mem_slot slot old (opened_slot (mem_slot slot old) None)) { open_faults = one_more old.open_faults }))

-- A read on a slot reads its bytes, as many as the buffer holds.
pub record ReadsSlotExactly {E : Type 0} (old new : MemShelfState) (slot : Slot) (result : Result ℕ E) (buf : List ℕ) : Type 0 where
  pub reads : ReadsExactly (mem_slot slot old).reading (mem_slot slot new).reading (length buf) result buf
  pub others : new ≡ with_mem_slot slot old (record (mem_slot slot old) { reading = (mem_slot slot new).reading })

-- An opening to write fails exactly where that was planned. Behind it nothing is written.
abbrev pub OpensWriteExactly : {E : Type 0} → MemShelfState → MemShelfState → Result (Unit {0}) E → Type 0
OpensWriteExactly old new result = MatchResult result
    (λ _. (opening_fails old ≡ false)
    × (new ≡ record old { write_asked = true; write_opened = true; sink = record old.sink { taken = [] } }))
    (λ _. (opening_fails old ≡ true)
    × (new ≡ record old { write_asked = true; write_opened = false; write_open_faults = one_more old.write_open_faults }))

-- A write is one on the sink of the written file.
pub record WritesFileExactly {E : Type 0} (old new : MemShelfState) (result : Result ℕ E) (piece : List ℕ) : Type 0 where
  pub writes : WritesExactly old.sink new.sink result piece
  pub others : new ≡ record old { sink = new.sink }

-- a slot as the trait sees it, which is told all
abbrev pub slot_state : MemSlotState → SlotState
slot_state s = record {
  asked = s.asked;
  opened = s.opened;
  given = Some s.reading.given;
  left = Some s.reading.left;
  faults = s.reading.faults;
}

-- a shelf in memory as the trait sees it: all bytes are told and every name is allowed
abbrev pub shelf_state : MemShelfState → ShelfState
shelf_state s = record {
  contents = λ name. file_named name s.files;
  allows_read = λ _ _. true;
  allows_write = λ _. true;
  script = slot_state s.script;
  capture = slot_state s.capture;
  open_faults = s.open_faults;
  written = record {
    asked = s.write_asked;
    opened = s.write_opened;
    taken = Some s.sink.taken;
    open_faults = s.write_open_faults;
    faults = s.sink.faults;
  };
}
