use Rattle.std.proofs.Common.{◌≡◌, drop, fold, None}
use Rattle.rules_in_effect.specs.IdIndex.{next_named}
use Rattle.rules_in_effect.proofs.index.named.Given as goal

-- what is told by those that are left, and by all
abbrev pub invariant-loop-waits : goal.invariant-loop-waits
invariant-loop-waits l = fold (next_named l.id) l.handle (drop l.waits-index l.waiting) ≡ fold (next_named l.id) None l.waiting
