use Rattle.std.proofs.Common.{◌≤◌, length}
use Rattle.rules_in_effect.proofs.rules.RulesInEffect.clear.Given as goal

abbrev pub decreases-loop : goal.decreases-loop
decreases-loop l = length l.self.list

-- no room goes
abbrev pub invariant-loop : goal.invariant-loop
invariant-loop l = l.initial.self.room ≤ l.self.room
