use Rattle.std.proofs.Common.{rules, append-nil, List, ◌≡◌, ◌∙◌, ◌+◌, ◌≤◌, [], ◌∷◌, ◌++◌, true, false, All, length, Some, refl, subst, sym, ap, arith}
use Rattle.std.proofs.lemmas.List.{length-append}
use Rattle.std.proofs.lemmas.List.Elements.{All-pop, All-push}
use Rattle.replica.specs.Caught.{ReplicaView}
use Rattle.flow_calls.specs.declared.caller.Caller.{Caller}
use Rattle.flow_port.specs.Ports.{IsFreshAt, limits_of, opening_of, seats_in, whose}
use Rattle.flow_port.specs.Standing.{Stands}
use Rattle.running_phase.specs.declared.actors.Actor.{Actor}
use Rattle.running_phase.specs.declared.actors.Role.TheVariants as roles
use Rattle.running_phase.specs.Actors.{IsReady, is_worker}
use Rattle.running_phase.specs.Roster.{workers_from}
use Rattle.running_phase.proofs.Seats.{All-whose, last_worker, worker_left}
use Rattle.running_phase.proofs.seating.seat_workers.Goals as goal

pub loop-replica-preserved : goal.loop-replica-preserved
loop-replica-preserved c =
    let port = c.args.port.now in
    let plan = c.args.plan.now in
    let replica = c.in-Some.replica in
    let seat = c.in-Some-pop.seat in
    let old = c.loop-replica.invariant in
    let left = c.pop.new.self.items in
    let before = seats_in c.loop-replica.seats in
    let after = seats_in c.pop-in-Some.new.self in
    let actors = c.loop-replica.actors.items in
    let actor : Actor = record { seat = seat; role = roles.Passer (record { replica = replica; kept = c.no_copies-kept.result }); failed = false } in
    let n = length left in
    let fewer : length c.loop-replica.replicas.items ≡ n + 1 = ap length c.in-Some.ensures.items ∙ length-append left (replica ∷ []) in
    let last = last_worker before after seat old.callers.0 n (length c.loop-replica.replicas.items) c.in-Some-pop.ensures.last fewer old.callers.1 in
    let fresh = All-pop (IsFreshAt port) before after (Some seat) c.in-Some-pop.ensures.last old.fresh in
    let stands = All-pop (λ (r : ReplicaView). Stands (limits_of port) (opening_of port) r) c.loop-replica.replicas.items left (Some replica) c.in-Some.ensures.items old.stands in
    let pushed = c.in_ok-push.ensures.items in
    let number : (whose seat).0 ≡ 9 + n = ap (λ (k : Caller). k.0) last.1 in
    let less : length before ≡ length after + 1 = ap length c.in-Some-pop.ensures.last ∙ length-append after (seat ∷ []) in
    let more : length c.push.new.self.items ≡ length actors + 1 = ap length pushed ∙ length-append actors (actor ∷ []) in
    let ready : IsReady port plan actor = record {
      seat = fresh.1;
      role = record {
        taker = (omega (arith, number), omega (arith, number, fewer, old.count));
        stands = stands.1;
        keeps = c.no_copies-kept.ensures.keeps;
        empty = c.no_copies-kept.ensures.empty;
      };
    } in
    record {
      fresh = fresh.0;
      callers = (old.callers.0, last.0, old.callers.2);
      stands = stands.0;
      ready = subst (All (IsReady port plan)) (sym pushed) (All-push (IsReady port plan) actors actor old.ready ready);
      workers = subst (All (λ a. is_worker a ≡ true)) (sym pushed) (All-push (λ a. is_worker a ≡ true) actors actor old.workers refl);
      count = omega (arith, old.count, fewer, more);
      seats = omega (arith, old.seats, less, more);
      list = c.pop-in-Some.ensures.list port old.list;
      limit = c.pop-in-Some.ensures.limit ∙ old.limit;
    }

pub unreachable-requires : goal.unreachable-requires
unreachable-requires c =
    let old = c.loop-replica.invariant in
    let left = c.pop.new.self.items in
    let before = seats_in c.loop-replica.seats in
    let none : before ≡ [] = search rules in
    let fewer : length c.loop-replica.replicas.items ≡ length left + 1 = ap length c.in-Some.ensures.items ∙ length-append left (c.in-Some.replica ∷ []) in
    worker_left before old.callers.0 (length left) (length c.loop-replica.replicas.items) none fewer old.callers.1

pub returns-clause-askers : goal.returns-clause-askers
returns-clause-askers c =
    let callers = c.loop-replica.invariant.callers in
    let none : c.loop-replica.replicas.items ≡ [] = search rules in
    All-whose (λ (k : Caller). k.0 ≤ 8) (seats_in c.loop-replica.seats) callers.0
    (callers.1 ∙ ap (λ (l : List ReplicaView). callers.0 ++ workers_from 9 (length l)) none ∙ append-nil callers.0) callers.2
