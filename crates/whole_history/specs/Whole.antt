-- A whole history: every call of the program and every frame of its phases stands in it exactly once, in its caller's
-- order, and nothing else does.
use Rattle.std.specs.Prelude.{◌≡◌, ℕ, ◌+◌, ◌<◌, ◌≤◌, List, [], ◌∷◌, ◌++◌, length, All}
use Rattle.std.specs.List.Sorted.{IsPermutation, IsStrictlyIncreasing}
use Rattle.capture_files.specs.Record.{Frame}
use Rattle.flow_calls.specs.declared.call.Call.{Call}
use Rattle.flow_calls.specs.declared.parcel.Parcel.{Parcel}
use Rattle.flow_calls.specs.declared.entry.Entry.{Entry}
use Rattle.flow_calls.specs.declared.entry.Entry.TheVariants.{Asked, Passed}
use Rattle.flow_grammar.specs.declared.part.Part.{Part}
use Rattle.flow_grammar.specs.declared.part.Part.TheVariants.{Section, Phase}
use Rattle.flow_grammar.specs.Calls.{calls_of}
use Rattle.flow_calls.specs.Entries.{calls_by, parcels_of, numbers_by, passers_of}
use Rattle.whole_history.specs.Reach.{taken_by, left_by, parcels_from}

-- the entries are just these calls, asked by that caller in order
abbrev pub AreAsks : ℕ → List Call → List Entry → Type 0
AreAsks who [] [] = Unit {0}
AreAsks who [] (e ∷ es) = ⊥
AreAsks who (call ∷ calls) [] = ⊥
AreAsks who (call ∷ calls) (Asked caller asked reply ∷ es) = (caller.0 ≡ who) × (asked ≡ call) × AreAsks who calls es
AreAsks who (call ∷ calls) (Passed caller parcel verdict ∷ es) = ⊥

-- Between the opening and the closing of a phase each caller asks just its calls, in order. Each frame that the phase
-- takes passes once, by one of the workers 0 to workers - 1, and the numbers of each worker rise.
pub record IsMiddle (workers : ℕ) (phase : Part) (taken : List Parcel) (es : List Entry) : Type 0 where
  pub calls : (who : ℕ) → calls_by who es ≡ calls_of phase who
  pub frames : IsPermutation taken (parcels_of es)
  pub passers : All (λ who. (9 ≤ who) × (who < 9 + workers)) (passers_of es)
  pub rising : (who : ℕ) → IsStrictlyIncreasing (numbers_by who es)

-- the entries of a phase: the shell's opening, the middle, and the shell's closing
pub record IsPhase (workers : ℕ) (phase : Part) (opening closing : Call) (taken : List Parcel) (es : List Entry) : Type 0 where
  pub opened : List Entry
  pub middle : List Entry
  pub closed : List Entry
  pub are : es ≡ opened ++ (middle ++ closed)
  pub opens : AreAsks 0 (opening ∷ []) opened
  pub passes : IsMiddle workers phase taken middle
  pub closes : AreAsks 0 (closing ∷ []) closed

-- the entries of a part that takes those frames: a section's are the shell's calls
abbrev pub IsPart : ℕ → Part → List Parcel → List Entry → Type 0
IsPart workers (Section calls) taken es = AreAsks 0 calls es
IsPart workers (Phase opening count shell agents closing) taken es =
    IsPhase workers (Phase opening count shell agents closing) opening closing taken es

-- The history is one piece for each part of the program, in order. `number` is that of the first frame that remains.
abbrev pub IsWhole : ℕ → List Part → ℕ → List Frame → List Entry → Type 0
IsWhole workers [] number frames h = h ≡ []
IsWhole workers (part ∷ parts) number frames h = (es : List Entry) × (rest : List Entry) × (h ≡ es ++ rest)
    × IsPart workers part (parcels_from number (taken_by part frames)) es
    × IsWhole workers parts (number + length (taken_by part frames)) (left_by part frames) rest
