use Rattle.std.proofs.Common.{◌≡◌, take}
use Rattle.flow_rules.proofs.validation.copy_of.Given as goal

abbrev pub invariant-loop-action : goal.invariant-loop-action
invariant-loop-action l = l.copy.items ≡ take l.action-index l.list.items
