use Rattle.std.proofs.Common.{length, sym, arith}
use Rattle.packet_headers.specs.Fields.{fields_of}
use Rattle.pattern_items.specs.Conditions.{masks_of}
use Rattle.pattern_items.specs.Faults.{is_below}
use Rattle.pattern_items.proofs.Ranges.{any_at}
use Rattle.pattern_items.proofs.faults.is_any_below.Goals as goal

pub returns-then-is_below : goal.returns-then-is_below
returns-then-is_below c =
    sym (any_at (is_below c.args.given.now.v c.args.last.now.v (masks_of c.args.item.now)) (length (fields_of c.args.item.now.kind))
    c.loop-field.field (sym c.if-is_below.ensures) (omega (arith, c.field_count-field-end.ensures.count)))
