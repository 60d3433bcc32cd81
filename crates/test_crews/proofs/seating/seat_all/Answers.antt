use Rattle.std.proofs.Common.{◌≡◌, ◌∙◌, ◌+◌, ◌<◌, ◌≤◌, [], ◌∷◌, false, All, length, Some, subst, sym, ap, arith}
use Rattle.std.proofs.lemmas.List.{length-append}
use Rattle.std.proofs.lemmas.List.Elements.{All-pop, All-push}
use Rattle.flow_rules.specs.declared.limits.Limits.{Limits}
use Rattle.flow_calls.specs.declared.caller.Caller.{Caller}
use Rattle.flow_port.specs.declared.seat.PortSeat.{PortSeat}
use Rattle.flow_port.specs.Ports.{IsFreshAt, limits_of, seats_in, whose}
use Rattle.test_crews.specs.declared.seating.Member.{Member}
use Rattle.test_crews.specs.Members.{IsFreshRole, IsReady}
use Rattle.test_crews.proofs.seating.seat_all.Goals as goal

pub loop-seat-smaller : goal.loop-seat-smaller
loop-seat-smaller c =
    let after = seats_in c.pop.new.self in
    let less : length (seats_in c.loop-seat.seats) ≡ length after + 1 = ap length c.in-Some.ensures.last ∙ length-append after (c.in-Some.seat ∷ []) in
    let fewer : length after < length (seats_in c.loop-seat.seats) = omega (arith, less) in
    fewer

pub loop-seat-preserved : goal.loop-seat-preserved
loop-seat-preserved c =
    let port = c.args.port.now in
    let seat = c.in-Some.seat in
    let role = c.in_ok-role.role in
    let old = c.loop-seat.invariant in
    let before = seats_in c.loop-seat.seats in
    let after = seats_in c.pop.new.self in
    let crew = c.loop-seat.crew.items in
    let member : Member = record { seat = seat; role = role; asked = 0; failed = false } in
    let fresh = All-pop (IsFreshAt port) before after (Some seat) c.in-Some.ensures.last old.fresh in
    let known = All-pop (λ (s : PortSeat). (whose s).0 ≤ 24) before after (Some seat) c.in-Some.ensures.last old.known in
    let pushed = c.in_ok-push.ensures.items in
    let less : length before ≡ length after + 1 = ap length c.in-Some.ensures.last ∙ length-append after (seat ∷ []) in
    let more : length c.push.new.self.items ≡ length crew + 1 = ap length pushed ∙ length-append crew (member ∷ []) in
    let fits : IsFreshRole (limits_of port) (whose seat).0 role
    = subst (λ (k : Caller). IsFreshRole (limits_of port) k.0 role) c.caller.ensures
    (subst (λ (l : Limits). IsFreshRole l c.caller.result.0 role) (sym c.requires.limits.1) c.in_ok-role.ensures) in
    let ready : IsReady port member = record { seat = fresh.1; role = fits; frames = c.requires.frames (whose seat).0 } in
    record {
      fresh = fresh.0;
      known = known.0;
      ready = subst (All (IsReady port)) (sym pushed) (All-push (IsReady port) crew member old.ready ready);
      count = omega (arith, old.count, less, more);
      list = c.pop.ensures.list port old.list;
      limit = c.pop.ensures.limit ∙ old.limit;
    }

pub returns-clause-list : goal.returns-clause-list
returns-clause-list c = (c.pop.ensures.list c.args.port.now c.loop-seat.invariant.list, c.pop.ensures.limit ∙ c.loop-seat.invariant.limit)
