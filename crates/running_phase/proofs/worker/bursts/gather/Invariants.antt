use Rattle.std.proofs.Common.{◌≤◌, ◌+◌, length}
use Rattle.running_phase.specs.Turns.{Took}
use Rattle.running_phase.proofs.worker.bursts.gather.Given as goal

abbrev pub invariant-loop-caller : goal.invariant-loop-caller
invariant-loop-caller g l = record {
  took : Took l.workers l.caller.0 l.replica.flows l.rest l.left l.burst;
  fewer : length l.burst.parcels.items + length l.left ≤ length l.rest;
  count : length l.burst.parcels.items ≤ 32;
}

abbrev pub decreases-loop-caller : goal.decreases-loop-caller
decreases-loop-caller g l = length l.left
