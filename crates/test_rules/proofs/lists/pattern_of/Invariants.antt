use Rattle.std.proofs.Common.{◌≡◌, take, length, ◌≤◌}
use Rattle.test_rules.proofs.lists.pattern_of.Given as goal

abbrev pub invariant-loop-item : goal.invariant-loop-item
invariant-loop-item l = (length l.item-items ≤ 16) × (l.list.items ≡ take l.item-index l.item-items)
