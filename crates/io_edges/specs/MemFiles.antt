-- The files and slots of a shelf in memory, as its contracts see them.
use Rattle.std.specs.Prelude.{◌≡◌, ℕ, ◌<◌, ◌≤◌, false, List, [], length, map, Option, None, Some, is_some, String, Vec, string_bytes}
use Rattle.std.specs.Global.{Global}
use Rattle.std.specs.List.{slice_index_or}
use Rattle.io_edges.specs.declared.mem_shelf.MemSlot.{MemSlot}
use Rattle.io_edges.specs.MemShelfState.{MemSlotState}
use Rattle.io_edges.specs.Reading.{reading_of}

-- named files as plain lists
abbrev pub plain : List (String Global × Vec ℕ Global) → List (List ℕ × List ℕ)
plain files = map (λ f. (string_bytes f.0, f.1.items)) files

-- the bytes of the file at that place
abbrev pub bytes_at : List (List ℕ × List ℕ) → Option ℕ → List ℕ
bytes_at files None = []
bytes_at files (Some place) = (slice_index_or files place ([], [])).1

-- a slot over these bytes
abbrev pub slot_over : List ℕ → MemSlot → MemSlotState
slot_over bytes slot =
    record { asked = slot.asked; opened = is_some slot.file; reading = reading_of bytes slot.cursor }

-- a slot over these files
abbrev pub slot_view : List (List ℕ × List ℕ) → MemSlot → MemSlotState
slot_view files slot = slot_over (bytes_at files slot.file) slot

-- A slot that wasn't asked for is as it was made, and one that is opened stands within its file.
pub record SlotFits (files : List (List ℕ × List ℕ)) (slot : MemSlot) : Type 0 where
  pub unasked : slot.asked ≡ false → (slot.file ≡ None) × (slot.cursor.place ≡ 0)
  pub within : (i : ℕ) → slot.file ≡ Some i → (i < length files) × (slot.cursor.place ≤ length (bytes_at files (Some i)))
