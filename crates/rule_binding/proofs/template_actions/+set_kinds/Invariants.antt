use Rattle.std.proofs.Common.{length}
use Rattle.rule_binding.proofs.template_actions.+set_kinds.Given as goal

abbrev pub decreases-set_kinds : goal.decreases-set_kinds
decreases-set_kinds l = length l.kinds.now
