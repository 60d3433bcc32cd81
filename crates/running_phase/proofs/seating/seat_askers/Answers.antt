use Rattle.std.proofs.Common.{◌≡◌, ◌∙◌, ◌+◌, ◌≤◌, [], ◌∷◌, false, All, length, Some, subst, sym, ap, arith}
use Rattle.std.specs.List.{count_by}
use Rattle.std.proofs.lemmas.List.{length-append}
use Rattle.std.proofs.lemmas.List.Elements.{All-pop, All-push}
use Rattle.flow_port.specs.declared.seat.PortSeat.{PortSeat}
use Rattle.flow_port.specs.Ports.{IsFreshAt, seats_in, whose}
use Rattle.running_phase.specs.declared.actors.Actor.{Actor}
use Rattle.running_phase.specs.declared.actors.Role.TheVariants as roles
use Rattle.running_phase.specs.Actors.{IsReady, is_worker}
use Rattle.running_phase.proofs.Seats.{workers_pushed}
use Rattle.running_phase.proofs.seating.seat_askers.Goals as goal

pub loop-seat-preserved : goal.loop-seat-preserved
loop-seat-preserved c =
    let port = c.args.port.now in
    let plan = c.args.plan.now in
    let seat = c.in-Some.seat in
    let old = c.loop-seat.invariant in
    let before = seats_in c.loop-seat.seats in
    let after = seats_in c.pop.new.self in
    let actors = c.loop-seat.actors.items in
    let actor : Actor = record { seat = seat; role = roles.Asker; failed = false } in
    let fresh = All-pop (IsFreshAt port) before after (Some seat) c.in-Some.ensures.last old.fresh in
    let low = All-pop (λ (s : PortSeat). (whose s).0 ≤ 8) before after (Some seat) c.in-Some.ensures.last old.askers in
    let pushed = c.in_ok-push.ensures.items in
    let less : length before ≡ length after + 1 = ap length c.in-Some.ensures.last ∙ length-append after (seat ∷ []) in
    let more : length c.push.new.self.items ≡ length actors + 1 = ap length pushed ∙ length-append actors (actor ∷ []) in
    let same : count_by is_worker c.push.new.self.items ≡ count_by is_worker actors + 0 = ap (count_by is_worker) pushed ∙ workers_pushed actors actor in
    record {
      fresh = fresh.0;
      askers = low.0;
      ready = subst (All (IsReady port plan)) (sym pushed) (All-push (IsReady port plan) actors actor old.ready (record { seat = fresh.1; role = low.1 }));
      count = omega (arith, old.count, less, more);
      workers = omega (arith, old.workers, same);
      list = c.pop.ensures.list port old.list;
      limit = c.pop.ensures.limit ∙ old.limit;
    }

pub returns-clause-list : goal.returns-clause-list
returns-clause-list c = c.pop.ensures.list c.args.port.now c.loop-seat.invariant.list
