-- Which frames are whose, and what a caller of a phase has to do.
use Rattle.std.specs.Prelude.{◌≡◌, ℕ, ◌+◌, ◌-◌, ◌%◌, ◌==◌, List, [], filter, slice_index_or, if◌then◌else◌}
use Rattle.flow_calls.specs.declared.call.Call.{Call}
use Rattle.flow_calls.specs.declared.parcel.Parcel.{Parcel}
use Rattle.flow_calls.specs.declared.entry.Entry.{Entry}
use Rattle.flow_calls.specs.Entries.{calls_by, parcels_of}

-- the caller that takes a frame: frame k goes to worker k mod workers, and worker w is caller 9 + w
abbrev pub taker_of : ℕ → ℕ → ℕ
taker_of workers number = 9 + number % workers

-- the frames of one caller
abbrev pub share_of : ℕ → ℕ → List Parcel → List Parcel
share_of workers who parcels = filter (λ p. taker_of workers p.number == who) parcels

-- the calls of one caller: the shell's, or those of an agent
abbrev pub calls_in : List Call → List (List Call) → ℕ → List Call
calls_in shell agents who = if who == 0 then shell else slice_index_or agents (who - 1) []

-- A caller's entries are its calls, in order, and its frames, in order
pub record Did (workers : ℕ) (shell : List Call) (agents : List (List Call)) (taken : List Parcel) (who : ℕ) (es : List Entry) : Type 0 where
  pub calls : calls_by who es ≡ calls_in shell agents who
  pub frames : parcels_of es ≡ share_of workers who taken
