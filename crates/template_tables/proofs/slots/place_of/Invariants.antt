-- No slot before this one has the id.
use Rattle.std.proofs.Common.{◌≡◌, nat_eq, take, None}
use Rattle.std.specs.Map.{lookup}
use Rattle.template_tables.proofs.slots.place_of.Given as goal

abbrev pub invariant-loop-place : goal.invariant-loop-place
invariant-loop-place l = lookup (nat_eq l.id) (take l.place l.slots) ≡ None
