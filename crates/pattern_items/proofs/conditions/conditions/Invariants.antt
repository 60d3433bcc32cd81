-- The conditions on the fields before this one.
use Rattle.std.proofs.Common.{◌≡◌, ◌≤◌, length, map}
use Rattle.std.specs.List.{filter, range_with_len}
use Rattle.pattern_items.specs.Conditions.{asks, condition, lasts_of, masks_of}
use Rattle.pattern_items.proofs.conditions.conditions.Given as goal

abbrev pub invariant-loop-field : goal.invariant-loop-field
invariant-loop-field l =
    (length l.conditions.items ≤ l.field)
    × (l.conditions.items ≡ filter asks (map (condition l.given.v (lasts_of l.item) (masks_of l.item)) (range_with_len 0 l.field)))
