use Rattle.std.proofs.Common.{◌≡◌, ◌+◌, ◌++◌, length}
use Rattle.running_phase.specs.Roster.{workers_from}
use Rattle.running_phase.proofs.roster.push_workers.Given as goal

abbrev pub invariant-loop-worker : goal.invariant-loop-worker
invariant-loop-worker l = record {
  callers : l.callers.items ≡ l.initial.callers.items ++ workers_from 9 l.worker;
  count : length l.callers.items ≡ length l.initial.callers.items + l.worker;
}
