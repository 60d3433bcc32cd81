use Rattle.std.proofs.Common.{drop}
use Rattle.rule_index.specs.Exact.{AreWithin}
use Rattle.rule_index.proofs.exact.are_within.Given as goal

abbrev pub invariant-loop-place : goal.invariant-loop-place
invariant-loop-place l = AreWithin (drop l.place l.masks) (drop l.place l.numbers) → AreWithin l.masks l.numbers
