use Rattle.std.proofs.Common.{◌≡◌, drop}
use Rattle.std.specs.List.{list_any}
use Rattle.pattern_items.specs.Shape.{makes_range}
use Rattle.pattern_items.proofs.shape.has_range.Given as goal

abbrev pub invariant-loop-condition : goal.invariant-loop-condition
invariant-loop-condition l = list_any makes_range l.conditions ≡ list_any makes_range (drop l.condition-index l.conditions)
