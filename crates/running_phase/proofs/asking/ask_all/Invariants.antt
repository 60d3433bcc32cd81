use Rattle.std.proofs.Common.{◌≡◌, ◌++◌, ◌+◌, ◌≤◌, length, take}
use Rattle.flow_calls.specs.Entries.{calls_by, parcels_of}
use Rattle.flow_port.specs.Ports.{IsSeatAt, mine, turns, whose}
use Rattle.running_phase.proofs.asking.ask_all.Given as goal

abbrev pub invariant-loop-call : goal.invariant-loop-call
invariant-loop-call g l = record {
  seat : IsSeatAt l.port l.seat;
  caller : whose l.seat ≡ whose l.initial.seat;
  left : length l.calls ≤ l.call-index + turns l.seat;
  asked : calls_by (whose l.initial.seat).0 (mine l.port l.seat) ≡ calls_by (whose l.initial.seat).0 (mine l.port l.initial.seat) ++ take l.call-index l.calls;
  frames : parcels_of (mine l.port l.seat) ≡ parcels_of (mine l.port l.initial.seat);
}
