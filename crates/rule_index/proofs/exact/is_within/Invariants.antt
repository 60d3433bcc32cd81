use Rattle.std.proofs.Common.{ℕ, ◌<◌, ◌≤◌, slice_index}
use Rattle.rule_index.proofs.exact.is_within.Given as goal

abbrev pub invariant-loop-field : goal.invariant-loop-field
invariant-loop-field l = (f : ℕ) → f < l.field → slice_index l.numbers.v f ≤ slice_index l.masks.v f
