-- Each id below is in use.
use Rattle.std.proofs.Common.{◌-◌, ◌<◌, length, IsSome, ℕ}
use Rattle.std.specs.Map.{lookup}
use Rattle.std.specs.Prelude.{nat_eq}
use Rattle.object_ids.proofs.ids.least_unused.Given as goal

abbrev pub invariant-loop-id : goal.invariant-loop-id
invariant-loop-id g l = (k : ℕ) → k < l.id → IsSome (lookup (nat_eq k) l.objects.entries)

abbrev pub decreases-loop-id : goal.decreases-loop-id
decreases-loop-id g l = length l.objects.entries - l.id
