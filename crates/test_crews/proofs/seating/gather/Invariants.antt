use Rattle.std.proofs.Common.{◌≡◌, ◌+◌, All, length}
use Rattle.flow_port.specs.Ports.{IsListOf, IsSeatAt, limit_of, seats_in}
use Rattle.test_crews.specs.Members.{IsDone}
use Rattle.test_crews.proofs.seating.gather.Given as goal

abbrev pub decreases-loop-member : goal.decreases-loop-member
decreases-loop-member l = length l.crew.items

abbrev pub invariant-loop-member : goal.invariant-loop-member
invariant-loop-member l = record {
  done : All (IsDone l.port) l.crew.items;
  seats : All (IsSeatAt l.port) (seats_in l.seats);
  count : length (seats_in l.seats) + length l.crew.items ≡ length l.initial.crew.items;
  list : IsListOf l.port l.seats;
  limit : limit_of l.seats ≡ limit_of l.initial.seats;
}
