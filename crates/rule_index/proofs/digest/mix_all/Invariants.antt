use Rattle.std.proofs.Common.{◌≡◌, drop}
use Rattle.rule_index.specs.Digest.{mix_all}
use Rattle.rule_index.proofs.digest.mix_all.Given as goal

abbrev pub invariant-loop-place : goal.invariant-loop-place
invariant-loop-place l = mix_all l.exact l.masks l.numbers 0 ≡ mix_all l.exact (drop l.place l.masks) (drop l.place l.numbers) l.digest
