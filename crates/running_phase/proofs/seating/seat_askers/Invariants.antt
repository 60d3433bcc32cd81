use Rattle.std.proofs.Common.{◌≡◌, ◌+◌, ◌≤◌, All, length}
use Rattle.std.specs.List.{count_by}
use Rattle.flow_port.specs.Ports.{IsFreshAt, IsListOf, limit_of, seats_in, whose}
use Rattle.running_phase.specs.Actors.{IsReady, is_worker}
use Rattle.running_phase.proofs.seating.seat_askers.Given as goal

abbrev pub decreases-loop-seat : goal.decreases-loop-seat
decreases-loop-seat l = length (seats_in l.seats)

abbrev pub invariant-loop-seat : goal.invariant-loop-seat
invariant-loop-seat l = record {
  fresh : All (IsFreshAt l.port) (seats_in l.seats);
  askers : All (λ s. (whose s).0 ≤ 8) (seats_in l.seats);
  ready : All (IsReady l.port l.plan) l.actors.items;
  count : length l.actors.items + length (seats_in l.seats) ≡ length l.initial.actors.items + length (seats_in l.initial.seats);
  workers : count_by is_worker l.actors.items ≡ count_by is_worker l.initial.actors.items;
  list : IsListOf l.port l.seats;
  limit : limit_of l.seats ≡ limit_of l.initial.seats;
}
