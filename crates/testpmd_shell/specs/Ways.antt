-- The ways in which the parts of a program may add to a history: in the serial order, or by callers in any turns.
use Rattle.std.specs.Prelude.{◌≡◌, ℕ, ◌+◌, List, [], ◌∷◌, ◌++◌, length}
use Rattle.flow_rules.specs.declared.limits.Limits.{Limits}
use Rattle.capture_files.specs.Record.{Frame}
use Rattle.flow_calls.specs.declared.entry.Entry.{Entry}
use Rattle.adapter.specs.History.{IsLegalBehind}
use Rattle.flow_grammar.specs.declared.part.Part.{Part}
use Rattle.whole_history.specs.Reach.{left_by, parcels_from, taken_by}
use Rattle.whole_history.specs.Serial.{part_of}
use Rattle.whole_history.specs.Whole.{IsPart}

-- which entries a part may add behind a history, where the frames that remain are numbered on from a number
abbrev pub Way : Type 1
Way = Limits → ℕ → List Frame → Part → List Entry → List Entry → Type 0

-- those of the serial order alone
abbrev pub serially : Way
serially limits number frames part before es = es ≡ part_of limits number frames part before

-- legal ones, in which each caller does what it has to do in the part, in order
abbrev pub in_any_turns : ℕ → Way
in_any_turns workers limits number frames part before es =
    IsLegalBehind limits before es × IsPart workers part (parcels_from number (taken_by part frames)) es

-- what parts add, one after the other
abbrev pub AreRun : Way → Limits → ℕ → List Frame → List Part → List Entry → List Entry → Type 0
AreRun way limits number frames [] before es = es ≡ []
AreRun way limits number frames (part ∷ parts) before es = (one : List Entry) × (rest : List Entry) × (es ≡ one ++ rest)
    × way limits number frames part before one
    × AreRun way limits (number + length (taken_by part frames)) (left_by part frames) parts (before ++ one) rest
