use Rattle.std.proofs.Common.{◌≡◌, ◌*◌, drop}
use Rattle.header_edit.specs.Checksum.{words_of, mended}
use Rattle.header_edit.proofs.sums.mended.Given as goal

abbrev pub invariant-loop-i : goal.invariant-loop-i
invariant-loop-i l =
    mended l.after (words_of (drop (2 * l.i) l.old)) (words_of (drop (2 * l.i) l.new)) ≡ mended l.fn.checksum (words_of l.old) (words_of l.new)
