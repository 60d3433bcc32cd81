use Rattle.std.proofs.Common.{length}
use Rattle.rule_binding.proofs.binding.+bind_actions.Given as goal

abbrev pub decreases-bind_actions : goal.decreases-bind_actions
decreases-bind_actions l = length l.list.now
