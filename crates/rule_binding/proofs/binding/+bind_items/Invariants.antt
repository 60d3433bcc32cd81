use Rattle.std.proofs.Common.{length}
use Rattle.rule_binding.proofs.binding.+bind_items.Given as goal

abbrev pub decreases-bind_items : goal.decreases-bind_items
decreases-bind_items l = length l.items.now
