-- The frames of a phase, and what a phase takes whatever frames stand behind them.
use Rattle.std.specs.Prelude.{◌≡◌, ℕ, ◌+◌, ◌-◌, ◌<◌, ◌≤◌, ◌==◌, Bool, true, false, List, [], ◌∷◌, ◌++◌, length, Option, None, Some, ⊤}
use Rattle.packet_headers.specs.Layers.{layers}
use Rattle.capture_files.specs.Record.{Frame}
use Rattle.io_edges.specs.ShelfState.{SlotState}
use Rattle.flow_calls.specs.declared.parcel.Parcel.{Parcel}
use Rattle.adapter.specs.Seen.{Seen, Grows}
use Rattle.running_phase.specs.declared.copies.FrameCopy.{FrameCopy}
use Rattle.running_phase.specs.Copies.{frame_of}
use Rattle.whole_history.specs.Serial.{passes_of}
use Rattle.testpmd_shell.specs.declared.feed.Feed.{Feed}
use Rattle.testpmd_shell.specs.Feed.{HasRead}
use Rattle.testpmd_shell.specs.Sending.{AreKept}

-- the parcel of a frame with that number and those bytes
abbrev pub parcel_at : ℕ → List ℕ → Parcel
parcel_at number bytes = record { number = number; key = layers bytes; len = length bytes }

-- a count that is used up, and one less
abbrev pub is_spent : Option ℕ → Bool
is_spent None = false
is_spent (Some n) = n == 0

abbrev pub one_less : Option ℕ → Option ℕ
one_less None = None
one_less (Some n) = Some (n - 1)

-- what is left of a count behind so many frames
abbrev pub IsLeftOf : Option ℕ → ℕ → Option ℕ → Type 0
IsLeftOf None taken left = left ≡ None
IsLeftOf (Some n) taken left = (taken ≤ n) × (left ≡ Some (n - taken))

-- A phase that has a count took so many frames, or the capture ended before; one without took all.
abbrev pub IsFull : Option ℕ → ℕ → Bool → Bool → Type 0
IsFull None taken ended ended' = ended' ≡ true
IsFull (Some n) taken ended ended' = (taken ≤ n) × (ended' ≡ false → taken ≡ n) × (ended ≡ false → ended' ≡ true → taken < n)

-- Each of these frames is entered behind those before them, by worker 0, and kept where it goes out.
pub record AreEntered (taken : ℕ) (frames : List Frame) (before after : Seen) (sent sent' : Option (List ℕ)) (more : List Frame) : Type 0 where
  pub grows : Grows before after (passes_of before.limits (taken + 1) more before.history)
  pub keeps : AreKept sent taken frames before → AreKept sent' (taken + length more) (frames ++ more) after

-- The copies are of these frames, numbered on from a number.
abbrev pub AreNumbered : ℕ → List Frame → List FrameCopy → Type 0
AreNumbered number [] [] = ⊤
AreNumbered number [] (copy ∷ copies) = ⊥
AreNumbered number (frame ∷ frames) [] = ⊥
AreNumbered number (frame ∷ frames) (copy ∷ copies) = (copy.number ≡ number) × (frame_of copy ≡ frame) × AreNumbered (number + 1) frames copies

-- More frames were read behind those read before, and something is done with them.
pub record TakesMore (Dealt : List Frame → Type 0) (feed feed' : Feed) (slot' : SlotState) (content : List ℕ) (frames : List Frame) : Type 0 where
  pub more : List Frame
  pub read : HasRead feed' slot' content (frames ++ more)
  pub counted : feed'.taken ≡ feed.taken + length more
  pub dealt : Dealt more
  pub none : feed.reader.ended ≡ true → (more ≡ []) × (feed'.reader.ended ≡ true)

-- so far in a phase with that count, of which some is left
pub record GoesOn (Dealt : List Frame → Type 0) (count left : Option ℕ) (feed feed' : Feed) (slot' : SlotState) (content : List ℕ) (frames : List Frame) : Type 0 where
  pub takes : TakesMore Dealt feed feed' slot' content frames
  pub remains : IsLeftOf count (length takes.more) left

-- a phase with that count took its frames
pub record Takes (Dealt : List Frame → Type 0) (count : Option ℕ) (feed feed' : Feed) (slot' : SlotState) (content : List ℕ) (frames : List Frame) : Type 0 where
  pub takes : TakesMore Dealt feed feed' slot' content frames
  pub full : IsFull count (length takes.more) feed.reader.ended feed'.reader.ended
