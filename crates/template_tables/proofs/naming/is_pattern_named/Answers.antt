use Rattle.std.proofs.Common.{◌∙◌, nat_eq, sym, ap}
use Rattle.std.specs.List.{list_any}
use Rattle.std.specs.Map.{values_of}
use Rattle.template_tables.specs.Refusals.{names_pattern}
use Rattle.template_tables.proofs.Going.{any_here, any_behind}
use Rattle.template_tables.proofs.naming.is_pattern_named.Goals as goal

pub returns-then-has_id : goal.returns-then-has_id
returns-then-has_id c =
    sym (any_here (names_pattern c.args.id) (values_of c.args.tables.now.entries) c.loop-place.place _ c.table_at.ensures (ap (list_any (nat_eq c.args.id)) (sym c.patterns.ensures) ∙ sym c.if-has_id.ensures)) ∙ c.loop-place.invariant

pub loop-place-preserved : goal.loop-place-preserved
loop-place-preserved c =
    any_behind (names_pattern c.args.id) (values_of c.args.tables.now.entries) c.loop-place.place _ c.table_at.ensures (ap (list_any (nat_eq c.args.id)) (sym c.patterns.ensures) ∙ sym c.if-has_id.ensures) ∙ c.loop-place.invariant
