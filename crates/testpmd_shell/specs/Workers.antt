-- A session's workers between the parts of a program, and what a phase adds whose callers take turns.
use Rattle.std.specs.Prelude.{ℕ, ◌≤◌, List, length, All, Option}
use Rattle.flow_calls.specs.declared.call.Call.{Call}
use Rattle.flow_calls.specs.declared.entry.Entry.{Entry}
use Rattle.flow_calls.specs.declared.parcel.Parcel.{Parcel}
use Rattle.flow_calls.specs.Entries.{numbers_by}
use Rattle.adapter.specs.History.{IsLegalBehind}
use Rattle.adapter.specs.Seen.{Seen, Grows}
use Rattle.flow_grammar.specs.declared.part.Part.TheVariants.{Phase}
use Rattle.whole_history.specs.Whole.{IsPart}
use Rattle.replica.specs.Caught.{ReplicaView}
use Rattle.flow_port.specs.Standing.{Stands}

-- There are 1 to 16, each with a replica that stands in the history, and of the frames that were taken none has a higher number
-- than how many they are.
pub record AreReady (taken : ℕ) (adapter : Seen) (replicas : List ReplicaView) : Type 0 where
  pub one : 1 ≤ length replicas
  pub few : length replicas ≤ 16
  pub stand : All (λ r. Stands adapter.limits adapter.history r) replicas
  pub numbered : (who : ℕ) → All (λ n. n ≤ taken) (numbers_by who adapter.history)

-- The history grew by legal entries that are those of a phase, in which just these frames pass.
pub record AddsPhase (workers : ℕ) (opening closing : Call) (shell : List Call) (agents : List (List Call)) (taken : List Parcel) (before after : Seen) : Type 0 where
  pub entries : List Entry
  pub grows : Grows before after entries
  pub legal : IsLegalBehind before.limits before.history entries
  pub is : (count : Option ℕ) → IsPart workers (Phase opening count shell agents closing) taken entries
