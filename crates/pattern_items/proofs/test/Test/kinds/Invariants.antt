use Rattle.std.proofs.Common.{◌≡◌, map, take}
use Rattle.pattern_items.specs.declared.test.ItemTest.{ItemTest}
use Rattle.pattern_items.proofs.test.Test.kinds.Given as goal

abbrev pub invariant-loop-item : goal.invariant-loop-item
invariant-loop-item l = l.kinds.items ≡ map (λ (i : ItemTest). i.kind) (take l.item-index l.self)
