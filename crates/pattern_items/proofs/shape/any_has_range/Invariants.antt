use Rattle.std.proofs.Common.{◌≡◌, drop}
use Rattle.std.specs.List.{list_any}
use Rattle.pattern_items.specs.Shape.{item_has_range}
use Rattle.pattern_items.proofs.shape.any_has_range.Given as goal

abbrev pub invariant-loop-item : goal.invariant-loop-item
invariant-loop-item l = list_any item_has_range l.items ≡ list_any item_has_range (drop l.item-index l.items)
