use Rattle.std.proofs.Common.{◌≡◌, ◌+◌, ◌≤◌, ◌++◌, length, take}
use Rattle.running_phase.specs.Roster.{agents_from}
use Rattle.running_phase.proofs.roster.push_agents.Given as goal

abbrev pub invariant-loop-queue : goal.invariant-loop-queue
invariant-loop-queue l = record {
  callers : l.callers.items ≡ l.initial.callers.items ++ agents_from 1 (take l.queue l.agents);
  count : length l.callers.items ≤ 1 + l.queue;
}
