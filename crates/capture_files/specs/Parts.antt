-- What the parts of a file are, as they come from a source.
use Rattle.std.specs.Prelude.{◌≡◌, ℕ, ◌≤◌, List, [], ◌++◌, length, take, Option, Some, None, Result, Ok, Err, MatchResult, IfSome}
use Rattle.std.specs.Io.KnownBytes.{Consumes}
use Rattle.io_edges.specs.Faults.{Rose}
use Rattle.capture_files.specs.declared.header.Format.{Format}
use Rattle.capture_files.specs.declared.record.RecordHeader.{RecordHeader}
use Rattle.capture_files.specs.declared.record.Progress.{Progress}
use Rattle.capture_files.specs.declared.parts.Halt.{Halt}
use Rattle.capture_files.specs.declared.parts.Halt.TheVariants.{Stopped, Faulted}
use Rattle.capture_files.specs.declared.stop.Stop.{Stop}
use Rattle.capture_files.specs.declared.stop.Stop.TheVariants.{End, Bad, Large}
use Rattle.capture_files.specs.declared.stop.CaptureKind.{CaptureKind}
use Rattle.capture_files.specs.declared.stop.CaptureKind.TheVariants.{HeaderCut, Magic, Version, LinkType, RecordCut, RecordLength}
use Rattle.capture_files.specs.Record.{record_header, frame_of, behind}
use Rattle.capture_files.specs.Capture.{Capture, capture_from, records_of, stopped, with_frame}

-- a source gave some bytes, of which P holds
pub record Gave (old new : Option (List ℕ)) (P : List ℕ → Type 0) : Type 0 where
  pub given : List ℕ
  pub consumed : Consumes old new given
  pub holds : P given

-- a file that stops so may go on behind its last byte
abbrev pub IsCutKind : CaptureKind → Type 0
IsCutKind HeaderCut = Unit {0}
IsCutKind Magic = ⊥
IsCutKind Version = ⊥
IsCutKind LinkType = ⊥
IsCutKind RecordCut = Unit {0}
IsCutKind RecordLength = ⊥

abbrev pub IsOpenStop : Stop → Type 0
IsOpenStop End = Unit {0}
IsOpenStop (Bad place kind) = IsCutKind kind
IsOpenStop (Large place) = ⊥

-- no frame stands in the bytes, and nothing is wrong with them but that they end
pub record IsUnfinished (capture : Capture) : Type 0 where
  pub no_frame : capture.frames ≡ []
  pub open_stop : IsOpenStop capture.stop

-- Why a part didn't come: the file stops there, or the source failed where the bytes that it gave are unfinished.
abbrev pub HaltTells : (List ℕ → Capture) → Option (List ℕ) → Option (List ℕ) → Halt → Type 0
HaltTells before old new (Stopped stop) = IfSome old (λ bytes. before bytes ≡ stopped stop)
HaltTells before old new Faulted = Gave old new (λ given. IsUnfinished (before given))

-- the file header came, whose form the records have; they are counted from any place
abbrev pub ReadsHeader : Option (List ℕ) → Option (List ℕ) → Result Format Halt → Type 0
ReadsHeader old new result = (progress : Progress) → MatchResult result
    (λ format. Gave old new (λ given. (rest : List ℕ) → capture_from progress (given ++ rest) ≡ records_of format progress rest))
    (HaltTells (capture_from progress) old new)

-- The frames and the stop of those bytes, behind a file header of that form, or with the file header.
abbrev pub rest_from : Option Format → Progress → List ℕ → Capture
rest_from None progress bytes = capture_from progress bytes
rest_from (Some format) progress bytes = records_of format progress bytes

-- the form is known, and the records are left
abbrev pub ReadsFormat : Option Format → Option (List ℕ) → Option (List ℕ) → Result Format Halt → Type 0
ReadsFormat known old new result = (progress : Progress) → MatchResult result
    (λ format. Gave old new (λ given. (rest : List ℕ) → rest_from known progress (given ++ rest) ≡ records_of format progress rest))
    (HaltTells (rest_from known progress) old new)

-- a record's header came
abbrev pub ReadsRecordHeader : Format → Progress → Option (List ℕ) → Option (List ℕ) → Result RecordHeader Halt → Type 0
ReadsRecordHeader format progress old new result = MatchResult result
    (λ header. Gave old new (λ given. (length given ≡ 16) × (header ≡ record_header format given)))
    (HaltTells (records_of format progress) old new)

-- a record came: its frame is the next, and its captured bytes are the front of the buffer
abbrev pub ReadsRecord : Format → Progress → Option (List ℕ) → Option (List ℕ) → Result RecordHeader Halt → List ℕ → Type 0
ReadsRecord format progress old new result buf = MatchResult result
    (λ header. Gave old new (λ given. (rest : List ℕ) → records_of format progress (given ++ rest)
    ≡ with_frame (frame_of header (take header.captured_len buf)) (records_of format (behind progress header.captured_len) rest)))
    (HaltTells (records_of format progress) old new)

-- a frame came, and its file header with it where it wasn't read before
abbrev pub ReadsFrame : Option Format → Progress → Option Format → Progress → Option (List ℕ) → Option (List ℕ) → Result RecordHeader Halt → List ℕ → Type 0
ReadsFrame format progress format' progress' old new result buf = MatchResult result
    (λ header. Gave old new (λ given. (rest : List ℕ) → rest_from format progress (given ++ rest)
    ≡ with_frame (frame_of header (take header.captured_len buf)) (rest_from format' progress' rest)))
    (HaltTells (rest_from format progress) old new)

abbrev pub PartRose : {X : Type 0} → ℕ → ℕ → Result X Halt → Type 0
PartRose before now (Ok x) = now ≡ before
PartRose before now (Err (Stopped stop)) = now ≡ before
PartRose before now (Err Faulted) = Rose before now

-- the count of the source's faults rose where it failed, and stays elsewhere
pub record PartCause {X : Type 0} (before now : ℕ) (result : Result X Halt) : Type 0 where
  pub later : before ≤ now
  pub rose : PartRose before now result
