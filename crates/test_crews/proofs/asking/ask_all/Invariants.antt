use Rattle.std.proofs.Common.{◌≤◌, ◌+◌, length}
use Rattle.flow_port.specs.Ports.{IsSeatAt, turns, whose}
use Rattle.test_crews.proofs.asking.ask_all.Given as goal

abbrev pub invariant-loop-place : goal.invariant-loop-place
invariant-loop-place g l = record {
  seat : IsSeatAt l.port l.seat;
  caller : (whose l.seat).0 ≤ 8;
  turns : length l.plan.calls.now ≤ l.place + turns l.seat;
}
