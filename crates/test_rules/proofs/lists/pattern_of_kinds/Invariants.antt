use Rattle.std.proofs.Common.{◌≡◌, ◌≤◌, map, take, length}
use Rattle.test_rules.specs.Items.{any_item}
use Rattle.test_rules.proofs.lists.pattern_of_kinds.Given as goal

abbrev pub invariant-loop-kind : goal.invariant-loop-kind
invariant-loop-kind l = (length l.kind-items ≤ 16) × (l.list.items ≡ map any_item (take l.kind-index l.kind-items))
