use Rattle.io_edges.proofs.Joins.{Prints-next}
use Rattle.history_text.specs.Rows.{row_text}
use Rattle.history_text.proofs.row.print_rows.Goals as goal

pub loop-place-preserved : goal.loop-place-preserved
loop-place-preserved g c =
    Prints-next row_text c.args.rows.now c.loop-place.place c.get.result.now c.get.ensures c.loop-place.invariant c.print_row.ensures
