-- No field before this one is below.
use Rattle.std.proofs.Common.{◌≡◌, ℕ, ◌<◌, false}
use Rattle.pattern_items.specs.Conditions.{masks_of}
use Rattle.pattern_items.specs.Faults.{is_below}
use Rattle.pattern_items.proofs.faults.is_any_below.Given as goal

abbrev pub invariant-loop-field : goal.invariant-loop-field
invariant-loop-field l = (k : ℕ) → k < l.field → is_below l.given.v l.last.v (masks_of l.item) k ≡ false
