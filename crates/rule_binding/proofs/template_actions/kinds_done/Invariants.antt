-- The kinds of the actions before this one.
use Rattle.std.proofs.Common.{◌≡◌, ◌≤◌, length, take}
use Rattle.rule_binding.specs.Templates.{kinds_done}
use Rattle.rule_binding.proofs.template_actions.kinds_done.Given as goal

abbrev pub invariant-loop-action : goal.invariant-loop-action
invariant-loop-action l = (length l.kinds.items ≤ l.action-index) × (l.kinds.items ≡ kinds_done (take l.action-index l.list))
