use Rattle.io_edges.proofs.Joins.{Prints-then}
use Rattle.history_text.proofs.verdict.print_known_marks.Goals as goal

pub returns : goal.returns
returns g c =
    Prints-then c.print.ensures.prints (Prints-then c.print_mark.ensures (Prints-then c.print-2.ensures.prints
    (Prints-then c.print_hash.ensures c.print-3.ensures.prints)))
