use Rattle.std.proofs.Common.{◌++◌, codes, ap, ◌∙◌}
use Rattle.history_text.specs.Totals.{totals_text}
use Rattle.history_text.specs.Endings.{ending_text}
use Rattle.io_edges.proofs.Joins.{Prints-then, Prints-as}
use Rattle.history_text.proofs.transcript.print_end.Goals as goal

pub returns : goal.returns
returns g c =
    Prints-as (ap (λ l. codes "total " ++ (totals_text l c.totals.result ++ (codes "\n" ++ ending_text c.args.ending))) c.limits.ensures.limits
    ∙ ap (λ t. codes "total " ++ (totals_text c.args.adapter.now.limits t ++ (codes "\n" ++ ending_text c.args.ending))) c.totals.ensures)
    (Prints-then c.print.ensures.prints (Prints-then c.print_totals.ensures (Prints-then c.print-2.ensures.prints c.print_ending.ensures)))
