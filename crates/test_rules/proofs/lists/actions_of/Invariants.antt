use Rattle.std.proofs.Common.{◌≡◌, take, length, ◌≤◌}
use Rattle.test_rules.proofs.lists.actions_of.Given as goal

abbrev pub invariant-loop-action : goal.invariant-loop-action
invariant-loop-action l = (length l.action-items ≤ 16) × (l.copy.items ≡ take l.action-index l.action-items)
