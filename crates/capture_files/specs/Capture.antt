-- The frames and the stop of a capture file (pcap 2.4).
use Rattle.std.specs.Prelude.{◌≡◌, ℕ, zero, suc, ◌+◌, List, [], ◌∷◌, ◌++◌, length, drop, Result, Ok, Err}
use Rattle.capture_files.specs.declared.header.Format.{Format}
use Rattle.capture_files.specs.declared.record.Progress.{Progress}
use Rattle.capture_files.specs.declared.stop.Stop.{Stop}
use Rattle.capture_files.specs.declared.stop.Stop.TheVariants.{End}
use Rattle.capture_files.specs.Header.{header_of}
use Rattle.capture_files.specs.Record.{Frame, record_at, behind}

-- the frames of a capture in their order, and why no further frame comes
pub record Capture : Type 0 where
  pub frames : List Frame
  pub stop : Stop

-- no frame, and that stop
abbrev pub stopped : Stop → Capture
stopped stop = record { frames = []; stop = stop }

-- that frame in front of the others
abbrev pub with_frame : Frame → Capture → Capture
with_frame frame others = record { frames = frame ∷ others.frames; stop = others.stop }

-- what comes behind a part that is there, or the stop
abbrev pub then_or_stop : {X : Type 0} → Result X Stop → (X → Capture) → Capture
then_or_stop (Ok x) others = others x
then_or_stop (Err stop) others = stopped stop

-- The records of bytes of which there are at most `fuel`. A record has 16 bytes or more, so that each takes fuel of its
-- own; and where there is no fuel no byte is left.
abbrev pub records_within : ℕ → Format → Progress → List ℕ → Capture
records_within zero format progress bytes = stopped End
records_within (suc fuel) format progress bytes =
    then_or_stop (record_at format progress bytes) (λ frame.
    with_frame frame (records_within fuel format (behind progress (length frame.bytes)) (drop (16 + length frame.bytes) bytes)))

-- the records of those bytes, which stand at that place behind those frames
unfoldable pub records_of : Format → Progress → List ℕ → Capture
records_of format progress bytes = records_within (length bytes) format progress bytes

-- the first record stands behind the file header
abbrev pub start : Progress
start = record { place = 24; frames = 0; captured = 0 }

-- the frames and the stop of a file's bytes, where the first record stands at that place
unfoldable pub capture_from : Progress → List ℕ → Capture
capture_from progress bytes = then_or_stop (header_of bytes) (λ format. records_of format progress (drop 24 bytes))

-- the frames and the stop of a file's bytes
abbrev pub capture : List ℕ → Capture
capture bytes = capture_from start bytes

-- these frames come first among those
abbrev pub ComeFirst : List Frame → List Frame → Type 0
ComeFirst first all = (rest : List Frame) × (all ≡ first ++ rest)
