-- What opening and reading the files says, and the run behind it.
use Rattle.std.specs.Prelude.{◌≡◌, ℕ, ◌<◌, ◌≤◌, ◌++◌, true, false, List, [], length, Option, None, Some, IfSome, is_some, ◌⊎◌, if◌then◌else◌}
use Rattle.std.specs.Io.KnownBytes.{Appends}
use Rattle.io_edges.specs.Front.{TakesFront}
use Rattle.io_edges.specs.ShelfState.{ShelfState, WrittenState}
use Rattle.capture_files.specs.Writing.{header_bytes}
use Rattle.history_text.specs.Text.{text_of}
use Rattle.history_text.specs.Transmit.{transmit_of}
use Rattle.capture_files.specs.Record.{Frame}
use Rattle.io_edges.specs.Lent.{KeepsSlot}
use Rattle.io_edges.specs.declared.shelf.Slot.TheVariants as slots
use Rattle.flow_rules.specs.declared.limits.Limits.{Limits}
use Rattle.flow_calls.specs.declared.entry.Entry.{Entry}
use Rattle.adapter.specs.Seen.{Seen}
use Rattle.flow_grammar.specs.declared.part.Part.{Part}
use Rattle.flow_grammar.specs.Limits.{calls_in}
use Rattle.flow_grammar.specs.Program.{program_of}
use Rattle.history_text.specs.declared.ending.Ending.{Ending}
use Rattle.testpmd_shell.specs.declared.fetch.Stopped.{Stopped}
use Rattle.testpmd_shell.specs.declared.fetch.Stopped.TheVariants as stopped
use Rattle.testpmd_shell.specs.declared.status.Status.{Status}
use Rattle.testpmd_shell.specs.declared.status.Status.TheVariants as status
use Rattle.testpmd_shell.specs.Options.{Given}
use Rattle.testpmd_shell.specs.declared.feed.Feed.{Feed}
use Rattle.testpmd_shell.specs.Feed.{IsFaultOf, CarriesFault}
use Rattle.testpmd_shell.specs.Parts.{IsOpen, WasRead, RunsParts, StartsOver, ending_in}
use Rattle.testpmd_shell.specs.Ways.{Way}
use Rattle.testpmd_shell.specs.Run.{early_faults}
use Rattle.testpmd_shell.specs.Found.{Found, found_in, limits_of, is_over, asks_for_more, ending_of, status_at}
use Rattle.testpmd_shell.specs.Transmitted.{IsAsOpened}

-- why the script wasn't read, by what is too large, by the bytes of its name, and by the counts of faults
abbrev pub IsScriptStop : (List ℕ → Type 0) → Option (List ℕ) → ℕ → ℕ → Stopped → Type 0
IsScriptStop IsLarge content before now stopped.ReadFault = before < now
IsScriptStop IsLarge content before now stopped.WriteFault = ⊥
IsScriptStop IsLarge content before now stopped.TooLarge = (now ≡ before) × IfSome content IsLarge
IsScriptStop IsLarge content before now stopped.NoMemory = now ≡ before

-- more bytes than a script may have, and more bytes, lines or calls
abbrev pub IsLong : List ℕ → Type 0
IsLong script = 1048576 < length script

abbrev pub IsOver : List ℕ → Type 0
IsOver script = is_over script ≡ true

-- why the capture wasn't opened
abbrev pub IsOpeningStop : ℕ → ℕ → Stopped → Type 0
IsOpeningStop before now stopped.ReadFault = before < now
IsOpeningStop before now stopped.WriteFault = ⊥
IsOpeningStop before now stopped.TooLarge = ⊥
IsOpeningStop before now stopped.NoMemory = now ≡ before

-- why the transmit file wasn't opened
abbrev pub IsWritingStop : WrittenState → WrittenState → Stopped → Type 0
IsWritingStop old new stopped.ReadFault = ⊥
IsWritingStop old new stopped.WriteFault = (old.open_faults < new.open_faults) × (new.faults ≡ old.faults)
IsWritingStop old new stopped.TooLarge = ⊥
IsWritingStop old new stopped.NoMemory = ⊥

-- why one of them wasn't: the transmit file is opened before the capture is asked for
abbrev pub IsFilesStop : Option (List ℕ) → ShelfState → ShelfState → Stopped → Type 0
IsFilesStop transmit old new stopped.ReadFault = (old.open_faults < new.open_faults) × IsAsOpened transmit old.written new.written
IsFilesStop transmit old new stopped.WriteFault = IsWritingStop old.written new.written stopped.WriteFault × (new.open_faults ≡ old.open_faults) × (new.capture ≡ old.capture)
IsFilesStop transmit old new stopped.TooLarge = ⊥
IsFilesStop transmit old new stopped.NoMemory = (new.open_faults ≡ old.open_faults) × IsAsOpened transmit old.written new.written

-- what the script's opening and reading leave alone
pub record OthersThanScript (old new : ShelfState) : Type 0 where
  pub contents : new.contents ≡ old.contents
  pub allows : new.allows_read ≡ old.allows_read
  pub allows_write : new.allows_write ≡ old.allows_write
  pub capture : new.capture ≡ old.capture
  pub written : new.written ≡ old.written

-- what the capture's opening and reading leave alone
pub record OthersThanCapture (old new : ShelfState) : Type 0 where
  pub contents : new.contents ≡ old.contents
  pub script : new.script ≡ old.script
  pub written : new.written ≡ old.written

-- what the openings of the transmit file and of the capture leave alone
pub record OthersThanBoth (old new : ShelfState) : Type 0 where
  pub contents : new.contents ≡ old.contents
  pub script : new.script ≡ old.script

-- the status where no history came
abbrev pub status_of_stop : Stopped → Status
status_of_stop stopped.ReadFault = status.ReadFault
status_of_stop stopped.WriteFault = status.WriteFault
status_of_stop stopped.TooLarge = status.TooLarge
status_of_stop stopped.NoMemory = status.NoMemory

-- The run of these files: its history is one of those, its ending that of the capture, and what is kept is what it sends.
pub record Runs (histories : Limits → List Part → List Frame → List Entry → Type 0) (given : Given) (found : Found) (s t : ShelfState) (adapter : Seen) (sent : Option (List ℕ)) (ending : Ending) : Type 0 where
  pub history : histories (limits_of given) (program_of found.script) found.capture.frames adapter.history
  pub ends : ending ≡ ending_of found
  pub asked : s.capture.faults < t.capture.faults → asks_for_more found ≡ true
  pub sends : IfSome sent (λ bytes. header_bytes ++ bytes ≡ transmit_of (limits_of given) found.capture.frames adapter.history)

-- The script was read, and the other files that are named are open.
pub record HasOpened (given : Given) (s o : ShelfState) (program : List Part) (feed : Option Feed) : Type 0 where
  pub calm : early_faults o ≡ early_faults s
  pub within : IfSome (s.contents given.script) (λ script. is_over script ≡ false)
  pub reads : IfSome (s.contents given.script) (λ script. program ≡ program_of script)
  pub few : calls_in program ≤ 65536
  pub open_feed : IsOpen feed o
  pub starts : StartsOver given.capture feed s o
  pub written : IsAsOpened given.transmit s.written o.written
  pub faults : o.capture.faults ≡ s.capture.faults

-- The parts of a program were run in that way, from the opened files on.
pub record HasFinished (way : Way) (given : Given) (program : List Part) (start : Option Feed) (o t : ShelfState) (adapter : Seen) (sent : Option (List ℕ)) (ending : Ending) : Type 0 where
  pub feed : Option Feed
  pub opened : Seen
  pub none_sent : Option (List ℕ)
  pub open_feed : IsOpen feed t
  pub ends : ending ≡ ending_in feed
  pub opening : (opened.limits ≡ limits_of given) × (opened.history ≡ [])
  pub empty : none_sent ≡ (if is_some given.transmit then Some [] else None)
  pub limits : adapter.limits ≡ limits_of given
  pub keeps : is_some sent ≡ is_some given.transmit
  pub fault : CarriesFault (ending_in start) ending o.capture.faults t.capture.faults
  pub others : KeepsSlot slots.Capture o t
  pub runs : (content : List ℕ) → (frames : List Frame) → WasRead start o content frames → RunsParts way program start feed t content frames opened adapter none_sent sent

-- A script was run to its end.
pub record HasRun (histories : Limits → List Part → List Frame → List Entry → Type 0) (given : Given) (s t : ShelfState) (adapter : Seen) (sent : Option (List ℕ)) (ending : Ending) : Type 0 where
  pub calm : early_faults t ≡ early_faults s
  pub within : IfSome (s.contents given.script) (λ script. is_over script ≡ false)
  pub limits : adapter.limits ≡ limits_of given
  pub fault : IsFaultOf ending s.capture.faults t.capture.faults
  pub opened : IsAsOpened given.transmit s.written t.written
  pub keeps : is_some sent ≡ is_some given.transmit
  pub runs : IfSome (found_in given s t) (λ found. Runs histories given found s t adapter sent ending)

-- the written file stays open, and no further opening is counted
pub record StaysOpen (old new : WrittenState) : Type 0 where
  pub asked : new.asked ≡ old.asked
  pub opened : new.opened ≡ old.opened
  pub openings : new.open_faults ≡ old.open_faults

-- the written file took the file of these records; or a write failed, and it took a front of it
abbrev pub TakesAll : Option (List ℕ) → WrittenState → WrittenState → Type 0
TakesAll None old new = new ≡ old
TakesAll (Some records) old new = StaysOpen old new × (new.faults ≡ old.faults) × Appends old.taken new.taken (header_bytes ++ records)

abbrev pub TakesSome : Option (List ℕ) → WrittenState → WrittenState → Type 0
TakesSome None old new = ⊥
TakesSome (Some records) old new = StaysOpen old new × (old.faults < new.faults) × ((sent : ℕ) × TakesFront old.taken new.taken (header_bytes ++ records) sent)

-- the status is the ending's, and the file was written; or a write failed, and a front of it was
abbrev pub IsSent : Option (List ℕ) → Ending → WrittenState → WrittenState → Status → Type 0
IsSent sent ending old new status.WriteFault = TakesSome sent old new
IsSent sent ending old new answer = (answer ≡ status_at ending) × TakesAll sent old new

-- What the sink and the written file take of a run: the whole transcript and the whole file, with the status of the ending; a
-- front of the transcript alone; or the whole transcript and a front of the file.
abbrev pub CutsTranscript : List ℕ → Option (List ℕ) → Option (List ℕ) → ℕ → ℕ → WrittenState → WrittenState → Type 0
CutsTranscript text old new before now w w' = (before < now) × ((sent : ℕ) × TakesFront old new text sent) × (w' ≡ w)

abbrev pub CutsFile : List ℕ → Option (List ℕ) → Option (List ℕ) → Option (List ℕ) → ℕ → ℕ → WrittenState → WrittenState → Type 0
CutsFile text sent old new before now w w' = (now ≡ before) × Appends old new text × TakesSome sent w w'

abbrev pub IsTold : Seen → Option (List ℕ) → Ending → Option (List ℕ) → Option (List ℕ) → ℕ → ℕ → WrittenState → WrittenState → Status → Type 0
IsTold adapter sent ending old new before now w w' status.WriteFault =
    let text = text_of adapter.limits adapter.history ending in
    CutsTranscript text old new before now w w' ⊎ CutsFile text sent old new before now w w'
IsTold adapter sent ending old new before now w w' answer =
    (answer ≡ status_at ending) × (now ≡ before) × Appends old new (text_of adapter.limits adapter.history ending) × TakesAll sent w w'
