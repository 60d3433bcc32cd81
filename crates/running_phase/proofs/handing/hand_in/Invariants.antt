use Rattle.std.proofs.Common.{◌≡◌, ◌+◌, All, length}
use Rattle.std.specs.List.{count_by}
use Rattle.flow_port.specs.Ports.{IsListOf, limit_of, seats_in}
use Rattle.running_phase.specs.Actors.{AreLeft, IsDone, is_worker}
use Rattle.running_phase.proofs.handing.hand_in.Given as goal

abbrev pub decreases-loop-actor : goal.decreases-loop-actor
decreases-loop-actor l = length l.actors.items

abbrev pub invariant-loop-actor : goal.invariant-loop-actor
invariant-loop-actor l = record {
  done : All (IsDone l.port l.plan) l.actors.items;
  left : AreLeft l.port l.plan l.failed (seats_in l.seats) l.replicas.items l.lists.items;
  count : length (seats_in l.seats) + length l.actors.items ≡ length l.initial.actors.items;
  workers : length l.replicas.items + count_by is_worker l.actors.items ≡ count_by is_worker l.initial.actors.items;
  list : IsListOf l.port l.seats;
  limit : limit_of l.seats ≡ limit_of l.initial.seats;
}
