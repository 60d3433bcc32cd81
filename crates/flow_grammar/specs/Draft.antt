-- What a draft makes of the lines that are left.
use Rattle.std.specs.Prelude.{◌≡◌, ℕ, ◌+◌, Bool, List, [], ◌∷◌, ◌++◌, length, Option, None, Some, if◌then◌else◌}
use Rattle.flow_calls.specs.declared.call.Call.{Call}
use Rattle.flow_grammar.specs.declared.line.Line.{Line}
use Rattle.flow_grammar.specs.declared.part.Part.{Part}
use Rattle.flow_grammar.specs.declared.draft.Opening.{Opening}
use Rattle.flow_grammar.specs.declared.draft.Draft.{Draft}
use Rattle.flow_grammar.specs.Program.{parts_from}
use Rattle.flow_grammar.specs.Limits.{calls_in}

-- the program of a draft and the lines from this number on
abbrev pub program_with : Draft → ℕ → List Line → List Part
program_with draft n lines = draft.parts.items ++ parts_from draft.opening draft.calls n lines

-- the draft takes in the line of this number, which ends the script or doesn't: whatever lines follow, the program stays
-- the same
abbrev pub TakesIn : Draft → Draft → ℕ → Line → Bool → Type 0
TakesIn old new n line ended = (rest : List Line)
    → program_with new (n + 1) (if ended then [] else rest) ≡ program_with old n (line ∷ rest)

-- the calls of the part that is open: a phase has its opening and its closing beside those of the shell
abbrev pub open_calls : Option Opening → List Call → ℕ
open_calls None calls = length calls
open_calls (Some opening) calls = length calls + 2

-- the draft knows how many calls it has
abbrev pub IsCounted : Draft → Type 0
IsCounted draft = draft.count ≡ calls_in draft.parts.items + open_calls draft.opening draft.calls
