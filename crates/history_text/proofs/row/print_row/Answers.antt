use Rattle.std.proofs.Common.{ap}
use Rattle.std.specs.List.{flat_map}
use Rattle.io_edges.proofs.Joins.{Prints-then, Prints-as}
use Rattle.history_text.specs.Rows.{item_text, action_text}
use Rattle.history_text.proofs.row.print_row.Goals as goal

pub returns : goal.returns
returns g c =
    Prints-then c.print_form.ensures (Prints-then (Prints-as (ap (flat_map item_text) c.as_slice.ensures.value) c.print_items.ensures)
    (Prints-then c.print.ensures.prints (Prints-as (ap (flat_map action_text) c.as_slice-2.ensures.value) c.print_actions.ensures)))
