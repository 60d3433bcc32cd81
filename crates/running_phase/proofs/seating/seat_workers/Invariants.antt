use Rattle.std.proofs.Common.{◌≡◌, ◌+◌, ◌≤◌, ◌++◌, true, List, All, map, length}
use Rattle.flow_calls.specs.declared.caller.Caller.{Caller}
use Rattle.flow_port.specs.Ports.{IsFreshAt, IsListOf, limit_of, limits_of, opening_of, seats_in, whose}
use Rattle.flow_port.specs.Standing.{Stands}
use Rattle.running_phase.specs.Actors.{IsReady, is_worker}
use Rattle.running_phase.specs.Roster.{workers_from}
use Rattle.running_phase.proofs.seating.seat_workers.Given as goal

abbrev pub decreases-loop-replica : goal.decreases-loop-replica
decreases-loop-replica l = length l.replicas.items

abbrev pub invariant-loop-replica : goal.invariant-loop-replica
invariant-loop-replica l = record {
  fresh : All (IsFreshAt l.port) (seats_in l.seats);
  callers : (askers : List Caller) × (map whose (seats_in l.seats) ≡ askers ++ workers_from 9 (length l.replicas.items)) × All (λ c. c.0 ≤ 8) askers;
  stands : All (λ r. Stands (limits_of l.port) (opening_of l.port) r) l.replicas.items;
  ready : All (IsReady l.port l.plan) l.actors.items;
  workers : All (λ a. is_worker a ≡ true) l.actors.items;
  count : length l.actors.items + length l.replicas.items ≡ l.plan.workers;
  seats : length (seats_in l.seats) + length l.actors.items ≡ length (seats_in l.initial.seats);
  list : IsListOf l.port l.seats;
  limit : limit_of l.seats ≡ limit_of l.initial.seats;
}
