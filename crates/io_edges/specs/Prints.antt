-- What printing over a page does to the sink behind it.
use Rattle.std.specs.Prelude.{◌≡◌, ℕ, ◌-◌, ◌^◌, ◌≤◌, min, true, false, List, ◌++◌, length, Option, is_some, Result, OnOk, IfErr}
use Rattle.std.specs.Io.KnownBytes.{Appends}
use Rattle.io_edges.specs.declared.writing.WriteFault.{WriteFault}
use Rattle.io_edges.specs.Faults.{Rose, HasCause}
use Rattle.io_edges.specs.Front.{TakesFront}
use Rattle.io_edges.specs.Gather.{Gather}

-- a sink where a text begins
pub record Start : Type 0 where
  pub taken : Option (List ℕ)
  pub faults : ℕ

abbrev pub start_of : {S : Type 0} → (S → Option (List ℕ)) → (S → ℕ) → S → Start
start_of taken faults sink = record { taken = taken sink; faults = faults sink }

-- no write failed: what the sink took and what waits is the text
pub record AllWritten (start : Start) (now : Gather) (text : List ℕ) : Type 0 where
  pub written : List ℕ
  pub splits : written ++ now.pending ≡ text
  pub took : Appends start.taken now.taken written
  pub calm : now.faults ≡ start.faults
  pub counted : now.sent ≡ min (length written) (2 ^ 64 - 1)

-- a write failed: the sink took a front of the text
pub record CutShort (start : Start) (now : Gather) (text : List ℕ) : Type 0 where
  pub front : TakesFront start.taken now.taken text now.sent
  pub rose : Rose start.faults now.faults

-- so far this text was printed
pub record Gathered (start : Start) (now : Gather) (text : List ℕ) : Type 0 where
  pub whole : now.failed ≡ false → AllWritten start now text
  pub part : now.failed ≡ true → CutShort start now text
  pub later : start.faults ≤ now.faults
  pub told : is_some now.taken ≡ is_some start.taken

-- this text was printed behind what was printed before
pub record Prints (old new : Gather) (text : List ℕ) : Type 0 where
  pub on : (start : Start) (before : List ℕ) → Gathered start old before → Gathered start new (before ++ text)

-- a text is at its end: the sink took all of it, or a write failed and it took a front of it
pub record Ends (start : Start) (taken : Option (List ℕ)) (faults : ℕ) (text : List ℕ) (result : Result (Unit {0}) WriteFault) : Type 0 where
  pub whole : OnOk result (Appends start.taken taken text)
  pub front : IfErr result (λ fault. TakesFront start.taken taken text fault.sent)
  pub cause : HasCause start.faults faults result
  pub told : is_some taken ≡ is_some start.taken

-- so ends whatever was printed on the page
pub record Finishes (old : Gather) (taken : Option (List ℕ)) (faults : ℕ) (result : Result (Unit {0}) WriteFault) : Type 0 where
  pub on : (start : Start) (text : List ℕ) → Gathered start old text → Ends start taken faults text result
