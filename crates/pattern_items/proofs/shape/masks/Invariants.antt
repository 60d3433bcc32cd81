-- The masks of the fields before this one stand there.
use Rattle.std.proofs.Common.{◌≡◌, ℕ, ◌<◌, length, get_or}
use Rattle.pattern_items.specs.Shape.{on_field}
use Rattle.pattern_items.proofs.shape.masks.Given as goal

abbrev pub invariant-loop-field : goal.invariant-loop-field
invariant-loop-field l = (length l.mask-items ≡ 6) × ((k : ℕ) → k < l.field → get_or l.mask-items k 0 ≡ (on_field l.item.conditions.items k).mask)
