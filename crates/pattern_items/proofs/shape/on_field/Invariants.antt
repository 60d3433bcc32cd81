use Rattle.std.proofs.Common.{◌≡◌, drop}
use Rattle.pattern_items.specs.Shape.{on_field}
use Rattle.pattern_items.proofs.shape.on_field.Given as goal

abbrev pub invariant-loop-condition : goal.invariant-loop-condition
invariant-loop-condition l = on_field l.conditions l.field ≡ on_field (drop l.condition-index l.conditions) l.field
