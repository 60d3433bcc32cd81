use Rattle.io_edges.proofs.Joins.{Prints-then}
use Rattle.history_text.proofs.totals.print_totals.Goals as goal

pub returns : goal.returns
returns g c = Prints-then c.print_form.ensures c.print_numbers.ensures.prints
