use Rattle.io_edges.proofs.Joins.{Prints-then, Prints-as}
use Rattle.history_text.proofs.Weaving.{filled-first}
use Rattle.history_text.proofs.form.+print_form.Goals as goal

pub returns : goal.returns
returns g t c =
    Prints-as (filled-first (λ part. part.now) c.args.parts.now c.in-Some.others.now c.in-Some.part.now c.args.numbers.now c.print_part-left.result.now
    c.in-Some.ensures.cases.0 c.print_part-left.ensures.left)
    (Prints-then c.print_part-left.ensures.prints c.print_form.ensures)
