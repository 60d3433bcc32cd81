use Rattle.std.proofs.Common.{◌≡◌, ◌<◌, ◌^◌, drop}
use Rattle.rule_words.specs.Number.{number_from, digit_of, below}
use Rattle.rule_words.proofs.number.number_of_digits.Given as goal

-- the digits that are left, behind the value so far, make the number
abbrev pub invariant-loop-digit : goal.invariant-loop-digit
invariant-loop-digit l =
    (l.value < 2 ^ 128)
    × (below (2 ^ 128) (number_from (digit_of l.base) l.base l.value (drop l.digit-index l.digits))
    ≡ below (2 ^ 128) (number_from (digit_of l.base) l.base 0 l.digits))
