use Rattle.std.proofs.Common.{◌≡◌, ◌≤◌, length}
use Rattle.port_state.specs.Freed.{freed_all}
use Rattle.port_state.proofs.carrying.clear_rules.Given as goal

abbrev pub decreases-loop-entry : goal.decreases-loop-entry
decreases-loop-entry l = length l.rules.list

abbrev pub invariant-loop-entry : goal.invariant-loop-entry
invariant-loop-entry l = (freed_all l.rules.list l.templates ≡ freed_all l.initial.rules.list l.initial.templates) × (l.initial.rules.room ≤ l.rules.room)
