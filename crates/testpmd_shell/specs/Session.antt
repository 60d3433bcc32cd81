-- What a session says: each status with its cause, and what was written.
use Rattle.std.specs.Prelude.{◌≡◌, ℕ, ◌-◌, ◌^◌, ◌<◌, ◌==◌, true, false, List, Option, None, Some, IfSome, IsTrue, ⊤, ◌⊎◌, if◌then◌else◌}
use Rattle.std.specs.Io.KnownBytes.{Appends}
use Rattle.io_edges.specs.declared.shelf.Slot.TheVariants as slots
use Rattle.io_edges.specs.ShelfState.{ShelfState, read_faults, write_faults}
use Rattle.io_edges.specs.Front.{TakesFront}
use Rattle.capture_files.specs.Record.{Frame}
use Rattle.flow_rules.specs.declared.limits.Limits.{Limits}
use Rattle.flow_calls.specs.declared.entry.Entry.{Entry}
use Rattle.adapter.specs.History.{IsLegal}
use Rattle.flow_grammar.specs.declared.part.Part.{Part}
use Rattle.flow_grammar.specs.Program.{program_of}
use Rattle.whole_history.specs.Reach.{has_phase}
use Rattle.whole_history.specs.Whole.{IsWhole}
use Rattle.whole_history.specs.Serial.{serial}
use Rattle.history_text.specs.Text.{text_of}
use Rattle.history_text.specs.Transmit.{transmit_of}
use Rattle.testpmd_shell.specs.declared.status.Status.{Status}
use Rattle.testpmd_shell.specs.declared.status.Status.TheVariants as status
use Rattle.testpmd_shell.specs.Options.{Given, options_of}
use Rattle.testpmd_shell.specs.Run.{Edges, Run, early_faults}
use Rattle.testpmd_shell.specs.Transmitted.{IsAsOpened, WasOpened, TookJust, TookFront}
use Rattle.testpmd_shell.specs.Found.{Found, found_in, limits_of, is_over, asks_for_more, ending_of, status_at, due_status}

-- ---- before the call

-- Nothing was asked for on the shelf, and no count of its faults stands at its last value.
pub record IsFresh (state : ShelfState) : Type 0 where
  pub script : state.script.asked ≡ false
  pub capture : state.capture.asked ≡ false
  pub openings : state.open_faults < 2 ^ 64 - 1
  pub script_reads : state.script.faults < 2 ^ 64 - 1
  pub capture_reads : state.capture.faults < 2 ^ 64 - 1
  pub written : state.written.asked ≡ false
  pub write_openings : state.written.open_faults < 2 ^ 64 - 1
  pub writes : state.written.faults < 2 ^ 64 - 1

-- the shelf allows the names that the words give, each for its slot
abbrev pub AllowsCapture : Option (List ℕ) → ShelfState → Type 0
AllowsCapture None state = ⊤
AllowsCapture (Some name) state = IsTrue (state.allows_read slots.Capture name)

abbrev pub AllowsTransmit : Option (List ℕ) → ShelfState → Type 0
AllowsTransmit None state = ⊤
AllowsTransmit (Some name) state = IsTrue (state.allows_write name)

abbrev pub Allows : Option Given → ShelfState → Type 0
Allows None state = ⊤
Allows (Some given) state = IsTrue (state.allows_read slots.Script given.script) × AllowsCapture given.capture state × AllowsTransmit given.transmit state

-- ---- which histories a session may print, for its options, its limits, its program and the frames of its capture

-- the serial history
abbrev pub IsSerial : Given → Limits → List Part → List Frame → List Entry → Type 0
IsSerial given limits program frames history = history ≡ serial limits program frames

-- the workers of a session: one for the serial order too
abbrev pub workers_of : Given → ℕ
workers_of given = if given.cores == 0 then 1 else given.cores

-- a legal history that is whole with these workers
abbrev pub IsLegalAndWhole : Given → Limits → List Part → List Frame → List Entry → Type 0
IsLegalAndWhole given limits program frames history = IsLegal limits history × IsWhole (workers_of given) program 1 frames history

-- ---- a run that came to its end

-- no write failed, of the sink or of the transmit file
pub record AreWritesCalm (before after : Edges) : Type 0 where
  pub sink : after.faults ≡ before.faults
  pub file : after.shelf.written.faults ≡ before.shelf.written.faults

-- The counts of faults by which a status comes: a read of the capture failed at ReadFault, a write of the sink or of the
-- transmit file at WriteFault.
abbrev pub IsEndOf : Edges → Edges → Status → Type 0
IsEndOf before after status.Done = (after.shelf.capture.faults ≡ before.shelf.capture.faults) × AreWritesCalm before after
IsEndOf before after status.Usage = ⊥
IsEndOf before after status.ReadFault = (before.shelf.capture.faults < after.shelf.capture.faults) × AreWritesCalm before after
IsEndOf before after status.WriteFault = (before.faults < after.faults) ⊎ ((after.faults ≡ before.faults) × (before.shelf.written.faults < after.shelf.written.faults))
IsEndOf before after status.BadCapture = (after.shelf.capture.faults ≡ before.shelf.capture.faults) × AreWritesCalm before after
IsEndOf before after status.TooLarge = (after.shelf.capture.faults ≡ before.shelf.capture.faults) × AreWritesCalm before after
IsEndOf before after status.NoMemory = ⊥

-- What the sink took of a text, and the transmit file of its bytes: all of them, unless the status is WriteFault. Then it is
-- a front of the text where a write of the sink failed, and else the whole text and a front of the bytes.
pub record WroteSome (given : Given) (before after : Edges) (text bytes : List ℕ) : Type 0 where
  pub transcript : before.faults < after.faults → (sent : ℕ) × TakesFront before.taken after.taken text sent
  pub file : after.faults ≡ before.faults → Appends before.taken after.taken text × TookFront given.transmit before.shelf.written after.shelf.written bytes

abbrev pub Wrote : Given → Edges → Edges → List ℕ → List ℕ → Status → Type 0
Wrote given before after text bytes status.WriteFault = WroteSome given before after text bytes
Wrote given before after text bytes other = Appends before.taken after.taken text × TookJust given.transmit before.shelf.written after.shelf.written bytes

-- the status is that of the capture's ending, unless a write failed
abbrev pub IsStatusOf : Found → Status → Type 0
IsStatusOf found status.WriteFault = ⊤
IsStatusOf found other = other ≡ status_at (ending_of found)

-- The transcript of such a history was written, and the transmit file of that history. A read of the capture failed only
-- where a phase asked for it.
pub record Tells (histories : Limits → List Part → List Frame → List Entry → Type 0) (given : Given) (found : Found) (before after : Edges) (answer : Status) : Type 0 where
  pub history : List Entry
  pub is : histories (limits_of given) (program_of found.script) found.capture.frames history
  pub written : Wrote given before after (text_of (limits_of given) history (ending_of found)) (transmit_of (limits_of given) found.capture.frames history) answer
  pub due : IsStatusOf found answer
  pub asked : before.shelf.capture.faults < after.shelf.capture.faults → asks_for_more found ≡ true

-- No opening and no read of the script failed, the script is within its limits, and its run came to its end. The transmit
-- file was opened where one is named, and is empty where a write of the sink failed.
pub record Ends (histories : Limits → List Part → List Frame → List Entry → Type 0) (given : Given) (before after : Edges) (answer : Status) : Type 0 where
  pub calm : early_faults after.shelf ≡ early_faults before.shelf
  pub within : IfSome (before.shelf.contents given.script) (λ script. is_over script ≡ false)
  pub opened : WasOpened given.transmit before.shelf.written after.shelf.written
  pub cause : IsEndOf before after answer
  pub unsent : before.faults < after.faults → IsAsOpened given.transmit before.shelf.written after.shelf.written
  pub tells : IfSome (found_in given before.shelf after.shelf) (λ found. Tells histories given found before after answer)

-- ---- a run that stopped in front of its transcript

-- neither the capture nor the transmit file is asked for
pub record AsksForNone (s t : ShelfState) : Type 0 where
  pub capture : t.capture ≡ s.capture
  pub written : t.written ≡ s.written

-- nothing is written to the transmit file: neither it nor the capture is asked for, or it is opened, and empty
abbrev pub IsUnsent : Given → ShelfState → ShelfState → Type 0
IsUnsent given s t = AsksForNone s t ⊎ IsAsOpened given.transmit s.written t.written

-- the transmit file wasn't opened, and the capture isn't asked for
pub record IsUnopened (s t : ShelfState) : Type 0 where
  pub failed : s.written.open_faults < t.written.open_faults
  pub calm : read_faults t ≡ read_faults s
  pub writes : t.written.faults ≡ s.written.faults
  pub capture : t.capture ≡ s.capture

-- An opening to read or a read of the script failed; the transmit file wasn't opened; the script is over its limits; or there
-- was no memory.
abbrev pub IsWhy : Given → ShelfState → ShelfState → Status → Type 0
IsWhy given s t status.Done = ⊥
IsWhy given s t status.Usage = ⊥
IsWhy given s t status.ReadFault = (early_faults s < early_faults t) × (t.capture.faults ≡ s.capture.faults) × IsUnsent given s t
IsWhy given s t status.WriteFault = IsUnopened s t
IsWhy given s t status.BadCapture = ⊥
IsWhy given s t status.TooLarge = (read_faults t ≡ read_faults s) × (t.written ≡ s.written) × IfSome (s.contents given.script) (λ script. is_over script ≡ true)
IsWhy given s t status.NoMemory = (early_faults t ≡ early_faults s) × IsUnsent given s t

-- a script that is told to be over its limits is told so before the transmit file and the capture are asked for
abbrev pub IsSizedFirst : Given → ShelfState → ShelfState → Type 0
IsSizedFirst given s t = IfSome (s.contents given.script) (λ script. is_over script ≡ true → AsksForNone s t)

-- Nothing was written.
pub record Stops (given : Given) (before after : Edges) (answer : Status) : Type 0 where
  pub unwritten : after.taken ≡ before.taken
  pub calm : after.faults ≡ before.faults
  pub why : IsWhy given before.shelf after.shelf answer
  pub sized : IsSizedFirst given before.shelf after.shelf

-- ---- all answers

-- where the words give no options, which takes memory to tell, nothing is opened, read or written
abbrev pub SaysBy : (Given → Limits → List Part → List Frame → List Entry → Type 0) → Option Given → Edges → Edges → Status → Type 0
SaysBy histories None before after answer = ((answer ≡ status.Usage) ⊎ (answer ≡ status.NoMemory)) × (after ≡ before)
SaysBy histories (Some given) before after answer = Ends (histories given) given before after answer ⊎ Stops given before after answer

-- what an answer says of a run
abbrev pub Says : (Given → Limits → List Part → List Frame → List Entry → Type 0) → Run → Status → Type 0
Says histories run answer = SaysBy histories (options_of run.words) run.before run.after answer

-- ---- what follows

abbrev pub CompletesBy : Option Given → Edges → Edges → Status → Type 0
CompletesBy None before after answer = ⊤
CompletesBy (Some given) before after answer = read_faults after.shelf ≡ read_faults before.shelf
    → write_faults after.shelf ≡ write_faults before.shelf → after.faults ≡ before.faults
    → IfSome (found_in given before.shelf after.shelf) (λ found. (answer ≡ status.NoMemory) ⊎ (answer ≡ due_status found))

-- where no call failed, and the bytes are told, the status is the one that the files owe, or there was no memory
abbrev pub Completes : Run → Status → Type 0
Completes run answer = CompletesBy (options_of run.words) run.before run.after answer

abbrev pub IsReadBy : Option Given → ShelfState → ShelfState → Type 0
IsReadBy None s t = ⊤
IsReadBy (Some given) s t = IfSome (s.contents given.script) (λ script. has_phase (program_of script) ≡ false → t.capture.faults ≡ s.capture.faults)

-- a failed read of the capture comes only where the script has a phase
abbrev pub IsReadByPhases : Run → Type 0
IsReadByPhases run = IsReadBy (options_of run.words) run.before.shelf run.after.shelf

abbrev pub IsTooLargeBy : Option Given → ShelfState → ShelfState → Status → Type 0
IsTooLargeBy None s t answer = ⊤
IsTooLargeBy (Some given) s t answer = IfSome (s.contents given.script) (λ script. is_over script ≡ true
    → AsksForNone s t × (early_faults t ≡ early_faults s → (answer ≡ status.NoMemory) ⊎ (answer ≡ status.TooLarge)))

-- With a script that is told to be over its limits neither the transmit file nor the capture is asked for, and the answer is
-- TooLarge, or there was no memory, unless the opening or a read of the script failed.
abbrev pub IsTooLargeFirst : Run → Status → Type 0
IsTooLargeFirst run answer = IsTooLargeBy (options_of run.words) run.before.shelf run.after.shelf answer
