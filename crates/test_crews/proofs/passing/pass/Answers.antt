use Rattle.std.proofs.Common.{List, subst, sym, arith}
use Rattle.flow_calls.specs.declared.parcel.Parcel.{Parcel}
use Rattle.flow_port.specs.Bursts.{Rise}
use Rattle.flow_port.specs.Ports.{seen, whose}
use Rattle.flow_port.proofs.Numbers.{rises_from}
use Rattle.test_crews.specs.declared.passing.Passing.{Passing}
use Rattle.test_crews.proofs.Crews.{IsPassed, on_ok_both, passed_on}
use Rattle.test_crews.proofs.passing.pass.Goals as goal

pub burst-requires-clause-left : goal.burst-requires-clause-left
burst-requires-clause-left g c =
    let more = c.requires.more in
    let left = c.requires.may.turns in
    omega (arith, more, left)

pub burst-requires-clause-numbers : goal.burst-requires-clause-numbers
burst-requires-clause-numbers g c =
    subst (λ (ps : List Parcel). Rise (whose c.args.seat.now).0 (seen c.args.seat.now) ps) (sym c.as_slice-2.ensures.value)
    (rises_from (whose c.args.seat.now).0 c.args.passing.now.share.next (seen c.args.seat.now) c.take.new.parcels.items c.requires.may.below c.in_ok-take.ensures.rising c.in_ok-take.ensures.from)

pub returns-clause-may : goal.returns-clause-may
returns-clause-may g c =
    let port = c.args.port.now in
    let old = c.args.seat.now in
    let new = c.burst.new.seat in
    let vs = c.burst.new.verdicts.items in
    let after : Passing = record { share = c.take.new.self; replica = c.burst.new.replica } in
    on_ok_both c.burst.result c.burst.ensures.mine c.burst.ensures.count
    (λ entered count.
    passed_on port old new c.args.passing.now after c.take.new.parcels.items vs c.requires.may
    (subst (λ (ps : List Parcel). IsPassed port old new ps vs c.burst.new.replica) c.as_slice-2.ensures.value (record {
      is = c.burst.ensures.seat;
      same = c.burst.ensures.caller;
      turns = c.burst.ensures.turns;
      mine = entered;
      count = count;
      stands = c.burst.ensures.replica;
    }))
    c.in_ok-take.ensures.same.0 c.in_ok-take.ensures.same.1 (c.in_ok-take.ensures.some c.requires.most.0 c.requires.more) c.in_ok-take.ensures.next c.in_ok-take.ensures.below)
