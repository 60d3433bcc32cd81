-- What the sink and the written file took, out of what the calls that write say.
use Rattle.std.proofs.Common.{◌≡◌, ℕ, ◌-◌, ◌^◌, ◌<◌, List, ◌++◌, Option, Some, Result, Ok, Err, OnOk, OnErr, refl, sym, subst, inr}
use Rattle.std.specs.Io.KnownBytes.{Appends}
use Rattle.io_edges.specs.declared.writing.WriteFault.{WriteFault}
use Rattle.io_edges.specs.Lent.{KeepsWritten}
use Rattle.io_edges.specs.Prints.{Ends}
use Rattle.io_edges.specs.ShelfState.{ShelfState, WrittenState}
use Rattle.capture_files.specs.Writing.{header_bytes}
use Rattle.adapter.specs.Seen.{Seen}
use Rattle.history_text.specs.Text.{text_of}
use Rattle.history_text.specs.declared.ending.Ending.{Ending}
use Rattle.history_text.specs.declared.ending.Ending.TheVariants as endings
use Rattle.testpmd_shell.specs.declared.status.Status.{Status}
use Rattle.testpmd_shell.specs.declared.status.Status.TheVariants as status
use Rattle.testpmd_shell.specs.Found.{status_at}
use Rattle.testpmd_shell.specs.Fetch.{StaysOpen, TakesAll, TakesSome, IsSent, IsTold}

stays : (old new : ShelfState) → KeepsWritten old new → StaysOpen old.written new.written
stays old new keeps = record { asked = keeps.asked; opened = keeps.opened; openings = keeps.openings }

-- what writing the file says
abbrev pub IsEnd : ShelfState → ShelfState → List ℕ → Result (Unit {0}) WriteFault → Type 0
IsEnd old new records result =
    Ends (record { taken = old.written.taken; faults = old.written.faults }) new.written.taken new.written.faults (header_bytes ++ records) result

pub TakesAll-ends : (old new : ShelfState) (records : List ℕ) (result : Result (Unit {0}) WriteFault) → IsEnd old new records result → KeepsWritten old new
    → OnOk result (TakesAll (Some records) old.written new.written)
TakesAll-ends old new records (Ok x) ends keeps = (stays old new keeps, ends.cause.kept, ends.whole)
TakesAll-ends old new records (Err e) ends keeps = tt

pub TakesSome-ends : (old new : ShelfState) (records : List ℕ) (result : Result (Unit {0}) WriteFault) → old.written.faults < 2 ^ 64 - 1
    → IsEnd old new records result → KeepsWritten old new → OnErr result (TakesSome (Some records) old.written new.written)
TakesSome-ends old new records (Ok x) fresh ends keeps = tt
TakesSome-ends old new records (Err e) fresh ends keeps = (stays old new keeps, ends.cause.rose fresh, (e.sent, ends.front))

-- all was written
sent-ending : (ending : Ending) (sent : Option (List ℕ)) (old new : WrittenState) → TakesAll sent old new → IsSent sent ending old new (status_at ending)
sent-ending endings.Whole sent old new takes = (refl, takes)
sent-ending (endings.Bad place kind) sent old new takes = (refl, takes)
sent-ending (endings.Large place) sent old new takes = (refl, takes)
sent-ending endings.ReadFault sent old new takes = (refl, takes)

pub IsSent-all : (answer : Status) (ending : Ending) (sent : Option (List ℕ)) (old new : WrittenState) → answer ≡ status_at ending → TakesAll sent old new
    → IsSent sent ending old new answer
IsSent-all answer ending sent old new is takes = subst (IsSent sent ending old new) (sym is) (sent-ending ending sent old new takes)

-- behind the whole transcript
pub IsTold-sent : (answer : Status) (ending : Ending) (adapter : Seen) (sent old new : Option (List ℕ)) (before now : ℕ) (w w' : WrittenState) → now ≡ before
    → Appends old new (text_of adapter.limits adapter.history ending) → IsSent sent ending w w' answer → IsTold adapter sent ending old new before now w w' answer
IsTold-sent status.Done ending adapter sent old new before now w w' calm wrote is = (is.0, calm, wrote, is.1)
IsTold-sent status.Usage ending adapter sent old new before now w w' calm wrote is = (is.0, calm, wrote, is.1)
IsTold-sent status.ReadFault ending adapter sent old new before now w w' calm wrote is = (is.0, calm, wrote, is.1)
IsTold-sent status.WriteFault ending adapter sent old new before now w w' calm wrote is = inr (calm, wrote, is)
IsTold-sent status.BadCapture ending adapter sent old new before now w w' calm wrote is = (is.0, calm, wrote, is.1)
IsTold-sent status.TooLarge ending adapter sent old new before now w w' calm wrote is = (is.0, calm, wrote, is.1)
IsTold-sent status.NoMemory ending adapter sent old new before now w w' calm wrote is = (is.0, calm, wrote, is.1)
