use Rattle.std.proofs.Common.{length}
use Rattle.rule_binding.proofs.binding.+item_fault.Given as goal

abbrev pub decreases-item_fault : goal.decreases-item_fault
decreases-item_fault l = length l.items.now
