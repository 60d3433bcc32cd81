use Rattle.std.proofs.Common.{◌≡◌, take}
use Rattle.rule_index.specs.Lines.{lines_by}
use Rattle.rule_index.proofs.line.are_lines_by.Given as goal

abbrev pub invariant-loop-place : goal.invariant-loop-place
invariant-loop-place l = take l.place l.lines ≡ lines_by (take l.place l.kinds) (take l.place l.masks)
