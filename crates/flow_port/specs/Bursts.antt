-- Frames that pass together.
use Rattle.std.specs.Prelude.{◌≡◌, ℕ, ◌<◌, List, [], ◌∷◌, map, All}
use Rattle.std.specs.List.Sorted.{IsStrictlyIncreasing}
use Rattle.flow_actions.specs.declared.verdict.Verdict.{Verdict}
use Rattle.flow_rules.specs.declared.limits.Limits.{Limits}
use Rattle.flow_rules.specs.Walk.{Flows, verdict_of}
use Rattle.flow_calls.specs.declared.caller.Caller.{Caller}
use Rattle.flow_calls.specs.declared.parcel.Parcel.{Parcel}
use Rattle.flow_calls.specs.declared.entry.Entry.{Entry}
use Rattle.flow_calls.specs.declared.entry.Entry.TheVariants.{Passed}
use Rattle.flow_calls.specs.Entries.{numbers_by}
use Rattle.port_state.specs.State.{flows_of, state_of}

-- the verdicts of what packets see, in order
abbrev pub verdicts_by : Flows → List Parcel → List Verdict
verdicts_by flows parcels = map (λ p. verdict_of flows p.key) parcels

-- the entries of a caller's frames with these verdicts, in order
abbrev pub passed_all : Caller → List Parcel → List Verdict → List Entry
passed_all caller [] verdicts = []
passed_all caller (p ∷ ps) [] = []
passed_all caller (p ∷ ps) (v ∷ vs) = Passed caller p v ∷ passed_all caller ps vs

-- The frames' numbers rise, and are greater than those of the caller's frames in the history
abbrev pub Rise : ℕ → List Entry → List Parcel → Type 0
Rise who history parcels =
    IsStrictlyIncreasing (map (λ p. p.number) parcels) × All (λ n. All (λ p. n < p.number) parcels) (numbers_by who history)

-- These entries are the frames with the verdicts that the history gives
pub record AreFit (limits : Limits) (history : List Entry) (caller : Caller) (parcels : List Parcel) (verdicts : List Verdict) (entries : List Entry) : Type 0 where
  pub judged : verdicts ≡ verdicts_by (flows_of (state_of limits history)) parcels
  pub packed : entries ≡ passed_all caller parcels verdicts
