-- The items before this one.
use Rattle.std.proofs.Common.{◌≡◌, map, take}
use Rattle.rule_binding.specs.Bare.{bare}
use Rattle.rule_binding.proofs.template_items.bare_items.Given as goal

abbrev pub invariant-loop-item : goal.invariant-loop-item
invariant-loop-item l = l.bare.items ≡ map bare (take l.item-index l.items)
