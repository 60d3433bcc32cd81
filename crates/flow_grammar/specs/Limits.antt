-- How large a script may be.
use Rattle.std.specs.Prelude.{ℕ, ◌+◌, ◌||◌, Bool, nat_lt, List, [], ◌∷◌, length, sum_by}
use Rattle.flow_grammar.specs.declared.part.Part.{Part}
use Rattle.flow_grammar.specs.declared.part.Part.TheVariants as parts
use Rattle.flow_grammar.specs.Lines.{lines_of}
use Rattle.flow_grammar.specs.Program.{program_of}

-- how many calls the parts of a program have: a phase has its opening and its closing beside those of the shell and of
-- the agents
abbrev pub calls_in : List Part → ℕ
calls_in [] = 0
calls_in (parts.Section calls ∷ others) = length calls + calls_in others
calls_in (parts.Phase opening count shell agents closing ∷ others) = (length shell + sum_by length agents + 2) + calls_in others

-- more than 65,536 lines, those behind `quit` too, or more than 65,536 calls: each is kept, and takes some KB
abbrev pub is_too_large : List ℕ → Bool
is_too_large script = nat_lt 65536 (length (lines_of script)) || nat_lt 65536 (calls_in (program_of script))
