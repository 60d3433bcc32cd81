use Rattle.std.proofs.Common.{◌≡◌, length, fold}
use Rattle.header_edit.specs.Checksum.{ones_add, words_of, ones_sum}
use Rattle.header_edit.proofs.sums.sum16.Given as goal

abbrev pub invariant-loop-rest : goal.invariant-loop-rest
invariant-loop-rest l = fold ones_add l.sum (words_of l.rest) ≡ ones_sum l.bytes

abbrev pub decreases-loop-rest : goal.decreases-loop-rest
decreases-loop-rest l = length l.rest
