use Rattle.std.proofs.Common.{◌≡◌, min, take}
use Rattle.testpmd_shell.specs.Numbers.{digits_value}
use Rattle.testpmd_shell.proofs.numbers.capped_value.Given as goal

abbrev pub invariant-loop-digit : goal.invariant-loop-digit
invariant-loop-digit l = l.number ≡ min (digits_value (take l.digit-index l.digits)) l.limit
