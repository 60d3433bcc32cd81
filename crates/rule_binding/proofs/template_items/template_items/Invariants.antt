-- What is kept of the items before this one.
use Rattle.std.proofs.Common.{◌≡◌, ◌≤◌, length, take}
use Rattle.rule_binding.specs.Templates.{template_items}
use Rattle.rule_binding.proofs.template_items.template_items.Given as goal

abbrev pub invariant-loop-item : goal.invariant-loop-item
invariant-loop-item l = (length l.kept.items ≤ l.item-index) × (l.kept.items ≡ template_items (take l.item-index l.items))
