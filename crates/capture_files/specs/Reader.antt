-- A reader of captures, and what its answers say.
use Rattle.std.specs.Prelude.{◌≡◌, ℕ, ◌+◌, ◌≤◌, Bool, true, false, List, [], ◌++◌, take, Option, None, unwrap_or}
use Rattle.io_edges.specs.Faults.{Rose}
use Rattle.capture_files.specs.declared.header.Format.{Format}
use Rattle.capture_files.specs.declared.record.Progress.{Progress}
use Rattle.capture_files.specs.declared.reader.Next.{Next}
use Rattle.capture_files.specs.declared.reader.Next.TheVariants as answers
use Rattle.capture_files.specs.declared.record.Stamp.{Stamp}
use Rattle.capture_files.specs.declared.stop.Stop.{Stop}
use Rattle.capture_files.specs.declared.stop.Stop.TheVariants as stops
use Rattle.capture_files.specs.declared.parts.Halt.{Halt}
use Rattle.capture_files.specs.declared.parts.Halt.TheVariants.{Stopped, Faulted}
use Rattle.capture_files.specs.Record.{Frame}
use Rattle.capture_files.specs.Parts.{rest_from, Gave, IsUnfinished}
use Rattle.capture_files.specs.Capture.{Capture, stopped, with_frame, start}

-- A reader: the form of the file, once its header was read, how far it has come, and whether it has ended.
pub record ReaderState : Type 0 where
  pub format : Option Format
  pub progress : Progress
  pub ended : Bool

-- a reader that has read nothing
abbrev pub opening : ReaderState
opening = record { format = None; progress = start; ended = false }

-- the frames and the stop that are still to come where the source has those bytes left
abbrev pub rest_of : ReaderState → List ℕ → Capture
rest_of reader bytes = rest_from reader.format reader.progress bytes

-- the bytes, where they are told
abbrev pub told : Option (List ℕ) → List ℕ
told bytes = unwrap_or bytes []

-- whether an answer is a frame
abbrev pub is_frame : Next → Bool
is_frame (answers.Frame len wire_len stamp) = true
is_frame answers.End = false
is_frame (answers.Bad place kind) = false
is_frame (answers.Large place) = false
is_frame answers.ReadFault = false

-- the frame that an answer and the buffer show
abbrev pub shown_frame : ℕ → ℕ → Stamp → List ℕ → Frame
shown_frame len wire_len stamp buf = record {
  bytes = take len buf;
  seconds = stamp.seconds;
  part = stamp.part;
  nano = stamp.nano;
  wire_len = wire_len;
}

-- What an answer says of the frames and the stop that were still to come, and of those that are now.
abbrev pub TellsRest : Capture → Capture → Next → List ℕ → Type 0
TellsRest before after (answers.Frame len wire_len stamp) buf = before ≡ with_frame (shown_frame len wire_len stamp buf) after
TellsRest before after answers.End buf = before ≡ stopped stops.End
TellsRest before after (answers.Bad place kind) buf = before ≡ stopped (stops.Bad place kind)
TellsRest before after (answers.Large place) buf = before ≡ stopped (stops.Large place)
TellsRest before after answers.ReadFault buf = Unit {0}

-- What an answer says of the bytes that the source gave. At a frame they are its record, whatever comes behind. At a read
-- fault no frame stands in them, and nothing is wrong with them but that they end.
abbrev pub TellsGiven : (List ℕ → Capture) → (List ℕ → Capture) → Option (List ℕ) → Option (List ℕ) → Next → List ℕ → Type 0
TellsGiven before after old new (answers.Frame len wire_len stamp) buf =
    Gave old new (λ given. (rest : List ℕ) → before (given ++ rest) ≡ with_frame (shown_frame len wire_len stamp buf) (after rest))
TellsGiven before after old new answers.End buf = Unit {0}
TellsGiven before after old new (answers.Bad place kind) buf = Unit {0}
TellsGiven before after old new (answers.Large place) buf = Unit {0}
TellsGiven before after old new answers.ReadFault buf = Gave old new (λ given. IsUnfinished (before given))

-- the count of the source's faults rose at a read fault, and stays elsewhere
abbrev pub NextCause : ℕ → ℕ → Next → Type 0
NextCause before now (answers.Frame len wire_len stamp) = now ≡ before
NextCause before now answers.End = now ≡ before
NextCause before now (answers.Bad place kind) = now ≡ before
NextCause before now (answers.Large place) = now ≡ before
NextCause before now answers.ReadFault = Rose before now

-- each frame is counted, and neither frames nor their lengths pass their limits
pub record CountsFrame (old new : ReaderState) (len : ℕ) : Type 0 where
  pub counted : new.progress.frames ≡ old.progress.frames + 1
  pub few : new.progress.frames ≤ 1048576
  pub short : len ≤ 262144

abbrev pub Counts : ReaderState → ReaderState → Next → Type 0
Counts old new (answers.Frame len wire_len stamp) = CountsFrame old new len
Counts old new answers.End = Unit {0}
Counts old new (answers.Bad place kind) = Unit {0}
Counts old new (answers.Large place) = Unit {0}
Counts old new answers.ReadFault = Unit {0}

-- the answer where a part didn't come
abbrev pub answer_of_stop : Stop → Next
answer_of_stop stops.End = answers.End
answer_of_stop (stops.Bad place kind) = answers.Bad place kind
answer_of_stop (stops.Large place) = answers.Large place

abbrev pub answer_of : Halt → Next
answer_of (Stopped stop) = answer_of_stop stop
answer_of Faulted = answers.ReadFault
