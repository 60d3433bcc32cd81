use Rattle.std.proofs.Common.{◌+◌, ◌*◌, sym, ◌∙◌, arith}
use Rattle.header_edit.proofs.WordLists.{mended-drop_more}
use Rattle.header_edit.proofs.sums.mended.Goals as goal

pub loop-i-preserved : goal.loop-i-preserved
loop-i-preserved c =
    let i = c.loop-i.i in
    sym (mended-drop_more c.args.old.now c.args.new.now c.loop-i.after c.mended_word-after.result c.from_be_bytes.result c.from_be_bytes-in-loop-i.result (2 * i) (2 * i + 1) (2 * (i + 1)) (omega arith) (omega arith) (omega arith) (omega arith) (omega arith) (omega arith) c.mended_word-after.ensures)
    ∙ c.loop-i.invariant
