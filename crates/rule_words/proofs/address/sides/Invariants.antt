use Rattle.std.proofs.Common.{◌≡◌, [], take, drop}
use Rattle.rule_words.specs.Address.{sides_from}
use Rattle.rule_words.proofs.address.sides.Given as goal

-- no `::` stands before i
abbrev pub invariant-loop-i : goal.invariant-loop-i
invariant-loop-i l = sides_from (take l.i l.text) (drop l.i l.text) ≡ sides_from [] l.text
