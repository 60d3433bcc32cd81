-- Frames with their numbers, and what a history and a transmit file make of them.
use Rattle.std.specs.Prelude.{◌≡◌, ℕ, List, map, All, Option, Some}
use Rattle.capture_files.specs.Record.{Frame}
use Rattle.capture_files.specs.Writing.{record_bytes}
use Rattle.flow_calls.specs.declared.parcel.Parcel.{Parcel}
use Rattle.whole_history.specs.Reach.{parcel_of}
use Rattle.running_phase.specs.declared.copies.FrameCopy.{FrameCopy}

abbrev pub frame_of : FrameCopy → Frame
frame_of copy = record {
  bytes = copy.bytes.items;
  seconds = copy.stamp.seconds;
  part = copy.stamp.part;
  nano = copy.stamp.nano;
  wire_len = copy.wire_len;
}

-- what a history keeps of them
abbrev pub parcels : List FrameCopy → List Parcel
parcels copies = map (λ c. parcel_of c.number (frame_of c)) copies

abbrev pub numbers : List FrameCopy → List ℕ
numbers copies = map (λ c. c.number) copies

-- the record of a transmit file
abbrev pub record_of : FrameCopy → List ℕ
record_of copy = record_bytes copy.stamp copy.wire_len copy.bytes.items

-- who looks a frame up by its number finds these
abbrev pub Finds : (ℕ → Option Frame) → List FrameCopy → Type 0
Finds look copies = All (λ c. look c.number ≡ Some (frame_of c)) copies
