use Rattle.std.proofs.Common.{arith}
use Rattle.std.specs.Map.{values_of}
use Rattle.template_tables.specs.TableView.{TableView}
use Rattle.template_tables.proofs.Going.{sum_behind}
use Rattle.template_tables.proofs.naming.rules_left.Goals as goal

pub loop-place-preserved : goal.loop-place-preserved
loop-place-preserved c =
    let more = sum_behind (λ (table : TableView). table.rules_number) (values_of c.args.tables.now.entries) c.loop-place.place _ c.table_at.ensures in
    omega (arith, c.saturating_sub-left.ensures, c.loop-place.invariant, c.rules_number.ensures, more)
