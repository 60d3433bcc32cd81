use Rattle.std.proofs.Common.{◌≡◌, ◌<◌, ◌^◌, drop}
use Rattle.rule_index.specs.Exact.{most_all}
use Rattle.rule_index.proofs.exact.are_exact.Given as goal

abbrev pub invariant-loop-fields : goal.invariant-loop-fields
invariant-loop-fields l = record { is : most_all l.masks 0 ≡ most_all (drop l.fields-index l.masks) l.most; fits : l.most < 2 ^ 128 }
