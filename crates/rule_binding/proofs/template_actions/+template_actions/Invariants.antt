use Rattle.std.proofs.Common.{length}
use Rattle.rule_binding.proofs.template_actions.+template_actions.Given as goal

abbrev pub decreases-template_actions : goal.decreases-template_actions
decreases-template_actions l = length l.list.now
