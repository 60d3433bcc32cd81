use Rattle.std.proofs.Common.{◌≡◌, take}
use Rattle.adapter.proofs.kept.shown.copy_of.Given as goal

abbrev pub invariant-loop-id : goal.invariant-loop-id
invariant-loop-id l = l.copy.items ≡ take l.id-index l.path.items
