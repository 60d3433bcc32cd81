-- The real files of a shelf, as it tells them: no bytes, and every name allowed.
use Rattle.std.specs.Prelude.{ℕ, true, false, None, is_some}
use Rattle.io_edges.specs.declared.file_shelf.Kept.{Kept}
use Rattle.io_edges.specs.declared.file_shelf.KeptWritten.{KeptWritten}
use Rattle.io_edges.specs.ShelfState.{ShelfState, SlotState, WrittenState}

-- a file that is read
abbrev pub kept_state : {F : Type 0} → Kept F → SlotState
kept_state kept =
    record { asked = kept.asked; opened = is_some kept.file; given = None; left = None; faults = kept.faults }

-- the file that is written
abbrev pub written_state : {F : Type 0} → KeptWritten F → WrittenState
written_state kept = record {
  asked = kept.asked;
  opened = is_some kept.file;
  taken = None;
  open_faults = kept.open_faults;
  faults = kept.faults;
}

-- a shelf of such files
abbrev pub untold_state : SlotState → SlotState → ℕ → WrittenState → ShelfState
untold_state script capture open_faults written = record {
  contents = λ _. None;
  allows_read = λ _ _. true;
  allows_write = λ _. true;
  script = script;
  capture = capture;
  open_faults = open_faults;
  written = written;
}

-- a slot that wasn't asked for
abbrev pub unasked_kept : SlotState
unasked_kept = record { asked = false; opened = false; given = None; left = None; faults = 0 }

-- a shelf of which nothing was asked for
abbrev pub unasked_files : ShelfState
unasked_files = untold_state unasked_kept unasked_kept 0
    (record { asked = false; opened = false; taken = None; open_faults = 0; faults = 0 })
