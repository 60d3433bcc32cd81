use Rattle.std.proofs.Common.{◌≡◌, ◌+◌, ◌≤◌, map, drop}
use Rattle.std.specs.Str.Lines.{strip_carriage_return}
use Rattle.flow_grammar.specs.Line.{line_of}
use Rattle.flow_grammar.specs.Draft.{program_with, IsCounted}
use Rattle.flow_grammar.specs.Program.{program_of}
use Rattle.flow_grammar.proofs.script.program.Given as goal

-- the draft and the lines that are left make the program, and the draft isn't too large yet
abbrev pub invariant-loop-line : goal.invariant-loop-line
invariant-loop-line l =
    (l.number ≡ l.line-index + 1) × IsCounted l.draft × (l.draft.count ≤ 65536)
    × (program_with l.draft l.number
    (map line_of (map strip_carriage_return (map (λ line. line.now) (drop l.line-index l.line-items))))
    ≡ program_of l.fn.script)
