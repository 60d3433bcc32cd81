-- The program of a script: its sections and phases.
use Rattle.std.specs.Prelude.{ℕ, ◌+◌, List, [], ◌∷◌, ◌++◌, map, Option, None, Some}
use Rattle.flow_calls.specs.declared.call.Call.{Call}
use Rattle.flow_calls.specs.declared.call.Op.{Op}
use Rattle.flow_calls.specs.declared.call.Op.TheVariants as ops
use Rattle.flow_calls.specs.declared.call.BadKind.TheVariants as kinds
use Rattle.flow_grammar.specs.declared.line.Line.{Line}
use Rattle.flow_grammar.specs.declared.line.Line.TheVariants as lines
use Rattle.flow_grammar.specs.declared.part.Part.{Part}
use Rattle.flow_grammar.specs.declared.part.Part.TheVariants as parts
use Rattle.flow_grammar.specs.declared.draft.Opening.{Opening}
use Rattle.flow_grammar.specs.Line.{line_of}
use Rattle.flow_grammar.specs.Lines.{lines_of}
use Rattle.flow_grammar.specs.Owners.{owned_by, agent_calls}

-- a line's call: the line and the part count from 1
abbrev pub call_at : ℕ → ℕ → Op → Call
call_at line part op = record { at = record { line = line; part = part }; op = op }

-- the calls of a line from this part on
abbrev pub calls_at : ℕ → ℕ → List Op → List Call
calls_at line part [] = []
calls_at line part (op ∷ others) = call_at line part op ∷ calls_at line (part + 1) others

-- what a line asks for where it neither opens nor closes a phase, nor ends the script: a `start` or `forward` in a phase,
-- and a `stop` outside one, is bad
abbrev pub ops_of : Line → List Op
ops_of (lines.Calls asked) = asked
ops_of (lines.Start count) = ops.Bad kinds.AlreadyStarted ∷ []
ops_of lines.Stop = ops.Bad kinds.NotStarted ∷ []
ops_of lines.Quit = ops.Quit ∷ []
ops_of lines.Blank = []
ops_of (lines.Bad kind) = ops.Bad kind ∷ []

-- how a phase begins that a line opens
abbrev pub opening_at : ℕ → Option ℕ → Opening
opening_at line count = record { line = line; count = count }

-- a section stands only where it has a call
abbrev pub section_of : List Call → List Part
section_of [] = []
section_of (call ∷ calls) = parts.Section (call ∷ calls) ∷ []

-- the phase that a line closes, or the end of the script as the line behind the last one: of the calls in it each is its
-- owner's
abbrev pub phase_of : Opening → List Call → ℕ → Part
phase_of opening calls line = parts.Phase (call_at opening.line 1 (ops.Start opening.count)) opening.count (owned_by 0 calls) (agent_calls calls)
    (call_at line 1 ops.Stop)

-- The parts of the lines from number n on. Before them stand the calls of a section, or of the phase that is open, in the
-- order of their lines.
-- `quit` ends the script, and first closes the phase that is open. A line that neither opens nor closes a phase, nor ends
-- the script, adds its calls to those before it.
abbrev pub parts_from : Option Opening → List Call → ℕ → List Line → List Part
parts_from None calls n [] = section_of calls
parts_from (Some opening) calls n [] = phase_of opening calls n ∷ []
parts_from None calls n (lines.Start count ∷ rest) = section_of calls ++ parts_from (Some (opening_at n count)) [] (n + 1) rest
parts_from (Some opening) calls n (lines.Stop ∷ rest) = phase_of opening calls n ∷ parts_from None [] (n + 1) rest
parts_from None calls n (lines.Quit ∷ rest) = section_of (calls ++ call_at n 1 ops.Quit ∷ [])
parts_from (Some opening) calls n (lines.Quit ∷ rest) = phase_of opening calls n ∷ section_of (call_at n 2 ops.Quit ∷ [])
parts_from open_phase calls n (line ∷ rest) = parts_from open_phase (calls ++ calls_at n 1 (ops_of line)) (n + 1) rest

-- the program of a script
abbrev pub program_of : List ℕ → List Part
program_of script = parts_from None [] 1 (map line_of (lines_of script))
