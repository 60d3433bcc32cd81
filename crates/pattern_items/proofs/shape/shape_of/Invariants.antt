-- The shape of the items before this one.
use Rattle.std.proofs.Common.{◌≡◌, ◌≤◌, length, map, take}
use Rattle.pattern_items.specs.Shape.{kind_of_test, masks_of_test, values_of_test}
use Rattle.pattern_items.proofs.shape.shape_of.Given as goal

abbrev pub invariant-loop-item : goal.invariant-loop-item
invariant-loop-item l =
    (l.shape.kinds.items ≡ map kind_of_test (take l.item-index l.items))
    × (l.shape.masks.items ≡ map masks_of_test (take l.item-index l.items))
    × (l.shape.values.items ≡ map values_of_test (take l.item-index l.items))
    × (length l.shape.kinds.items ≤ l.item-index)
    × (length l.shape.masks.items ≤ l.item-index)
    × (length l.shape.values.items ≤ l.item-index)
