use Rattle.std.proofs.Common.{◌≤◌, ◌+◌}
use Rattle.flow_port.specs.Ports.{IsSeatAt, turns, whose}
use Rattle.port_tests.proofs.two_threads.ask_all.Given as goal

abbrev pub invariant-loop-line : goal.invariant-loop-line
invariant-loop-line g l = record {
  seat : IsSeatAt l.port l.seat;
  enough : 1000 ≤ l.line + turns l.seat;
  asks : (whose l.seat).0 ≤ 8;
}
