use Rattle.std.proofs.Common.{◌≡◌, ◌+◌, ◌≤◌, All, length}
use Rattle.flow_port.specs.Ports.{IsFreshAt, IsListOf, limit_of, seats_in, whose}
use Rattle.test_crews.specs.Members.{IsReady}
use Rattle.test_crews.proofs.seating.seat_all.Given as goal

abbrev pub decreases-loop-seat : goal.decreases-loop-seat
decreases-loop-seat l = length (seats_in l.seats)

abbrev pub invariant-loop-seat : goal.invariant-loop-seat
invariant-loop-seat l = record {
  fresh : All (IsFreshAt l.port) (seats_in l.seats);
  known : All (λ s. (whose s).0 ≤ 24) (seats_in l.seats);
  ready : All (IsReady l.port) l.crew.items;
  count : length l.crew.items + length (seats_in l.seats) ≡ length (seats_in l.initial.seats);
  list : IsListOf l.port l.seats;
  limit : limit_of l.seats ≡ limit_of l.initial.seats;
}
