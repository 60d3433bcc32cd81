-- The capture as phases take it: its reader, how many frames were taken, a buffer for one frame, and how it ended.
use Rattle.std.specs.Prelude.{◌≡◌, ℕ, ◌+◌, ◌≤◌, true, false, List, [], ◌∷◌, ◌++◌, length, take, Option, None, Some, is_some}
use Rattle.capture_files.specs.declared.stop.Stop.TheVariants as stops
use Rattle.capture_files.specs.Capture.{Capture, capture}
use Rattle.capture_files.specs.Record.{Frame}
use Rattle.capture_files.specs.Reader.{rest_of, told}
use Rattle.history_text.specs.declared.ending.Ending.{Ending}
use Rattle.history_text.specs.declared.ending.Ending.TheVariants as endings
use Rattle.io_edges.specs.Faults.{Rose}
use Rattle.io_edges.specs.ShelfState.{SlotState}
use Rattle.testpmd_shell.specs.declared.feed.Feed.{Feed}
use Rattle.testpmd_shell.specs.declared.feed.Arrived.{Arrived}

-- The buffer holds any frame, of which the longest has 262,144 bytes. While the reader runs its frames are counted, and
-- the capture hasn't ended.
pub record IsReady (feed : Feed) : Type 0 where
  pub room : length feed.buffer.items ≡ 262144
  pub counted : feed.reader.ended ≡ false → feed.taken ≡ feed.reader.progress.frames
  pub going_on : feed.reader.ended ≡ false → feed.ending ≡ endings.Whole

-- these frames stand in front of a capture's
abbrev pub in_front : List Frame → Capture → Capture
in_front frames capture = record { frames = frames ++ capture.frames; stop = capture.stop }

-- A capture with that content ended behind these frames; where a read failed, they are those of the bytes given out.
abbrev pub HasEnded : Ending → SlotState → List ℕ → List Frame → Type 0
HasEnded endings.Whole slot content frames = capture content ≡ record { frames = frames; stop = stops.End }
HasEnded (endings.Bad place kind) slot content frames = capture content ≡ record { frames = frames; stop = stops.Bad place kind }
HasEnded (endings.Large place) slot content frames = capture content ≡ record { frames = frames; stop = stops.Large place }
HasEnded endings.ReadFault slot content frames = (given : List ℕ) → slot.given ≡ Some given → (capture given).frames ≡ frames

-- Just these frames were read of a capture with that content, which the slot tells. While the reader runs, they stand in
-- front of what the bytes left tell; and so of any bytes that come behind those given out.
pub record HasRead (feed : Feed) (slot : SlotState) (content : List ℕ) (frames : List Frame) : Type 0 where
  pub known : is_some slot.left ≡ true
  pub running : feed.reader.ended ≡ false → capture content ≡ in_front frames (rest_of feed.reader (told slot.left))
  pub given : feed.reader.ended ≡ false → (gone : List ℕ) → slot.given ≡ Some gone → (rest : List ℕ) → capture (gone ++ rest) ≡ in_front frames (rest_of feed.reader rest)
  pub ended : feed.reader.ended ≡ true → HasEnded feed.ending slot content frames

-- the frame that arrived in those bytes
abbrev pub frame_in : Arrived → List ℕ → Frame
frame_in arrived bytes = record {
  bytes = bytes;
  seconds = arrived.stamp.seconds;
  part = arrived.stamp.part;
  nano = arrived.stamp.nano;
  wire_len = arrived.wire_len;
}

-- the next frame was read, and is the front of the buffer; or there was none
abbrev pub ReadsOn : Feed → SlotState → List ℕ → List Frame → Option Arrived → Type 0
ReadsOn feed slot content frames None = HasRead feed slot content frames
ReadsOn feed slot content frames (Some arrived) = HasRead feed slot content (frames ++ frame_in arrived (take arrived.len feed.buffer.items) ∷ [])

-- A frame was counted, of which a capture has at most 1,048,576; or none was, and the capture has ended.
abbrev pub CountsOn : Feed → Feed → Option Arrived → Type 0
CountsOn old new None = (new.taken ≡ old.taken) × (new.reader.ended ≡ true)
CountsOn old new (Some arrived) = (new.taken ≡ old.taken + 1) × (new.taken ≤ 1048576) × (new.reader.ended ≡ false)

-- the count of failed reads rose where the capture ended by one
abbrev pub IsFaultOf : Ending → ℕ → ℕ → Type 0
IsFaultOf endings.Whole before now = now ≡ before
IsFaultOf (endings.Bad place kind) before now = now ≡ before
IsFaultOf (endings.Large place) before now = now ≡ before
IsFaultOf endings.ReadFault before now = Rose before now

-- Since any count before, failed reads are counted as the ending says, if they were so far.
abbrev pub CarriesFault : Ending → Ending → ℕ → ℕ → Type 0
CarriesFault old new before now = (base : ℕ) → IsFaultOf old base before → IsFaultOf new base now
