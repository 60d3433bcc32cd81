use Rattle.std.proofs.Common.{rules, ◌∙◌, ℕ, ◌<◌, List, length, refl, subst, sym, ap, arith}
use Rattle.std.proofs.lemmas.Result.{on_ok_weaker}
use Rattle.flow_calls.specs.declared.parcel.Parcel.{Parcel}
use Rattle.flow_port.specs.Bursts.{verdicts_by}
use Rattle.flow_port.specs.Ports.{limits_of, opening_of, seen, since, whose}
use Rattle.flow_port.proofs.Passing.{on_ok_always}
use Rattle.running_phase.specs.Sends.{AreKept, sent_by}
use Rattle.running_phase.specs.Turns.{lent}
use Rattle.running_phase.proofs.Turning.{IsTurn, calls_turn, frames_turn, judged_turn, numbers_turn, sent_turn}
use Rattle.running_phase.proofs.worker.pass.Goals as goal

pub keep_sent-requires : goal.keep_sent-requires
keep_sent-requires g c =
    let port = c.args.port.now in
    let old = c.args.seat.now in
    let new = c.burst.new.seat in
    let replica = c.burst.new.replica in
    let burst = c.args.burst.now in
    let vs = c.burst.new.verdicts.items in
    let turn : IsTurn port old new replica burst.parcels.items vs
    = subst (λ (ps : List Parcel). IsTurn port old new replica ps vs) c.as_slice.ensures.value (record {
      was = c.requires.seat;
      is = c.in_ok-burst.ensures.seat;
      same = c.in_ok-burst.ensures.caller;
      legal = c.in_ok-burst.ensures.legal;
      own = c.in_ok-burst.ensures.own;
      grew = c.in_ok-burst.ensures.ok;
      entered = c.in_ok-burst.ensures.mine;
      count = c.in_ok-burst.ensures.count;
      current = c.in_ok-burst.ensures.current;
    }) in
    record {
      same = refl;
      packed = c.requires.has.packed;
      judged = judged_turn port old new replica burst.parcels.items vs turn ∙ ap (verdicts_by replica.flows) c.requires.has.packed;
    }

pub returns : goal.returns
returns g c =
    let port = c.args.port.now in
    let old = c.args.seat.now in
    let new = c.burst.new.seat in
    let replica = c.burst.new.replica in
    let burst = c.args.burst.now in
    let ps = burst.parcels.items in
    let vs = c.burst.new.verdicts.items in
    let turn : IsTurn port old new replica ps vs
    = subst (λ (l : List Parcel). IsTurn port old new replica l vs) c.as_slice.ensures.value (record {
      was = c.requires.seat;
      is = c.in_ok-burst.ensures.seat;
      same = c.in_ok-burst.ensures.caller;
      legal = c.in_ok-burst.ensures.legal;
      own = c.in_ok-burst.ensures.own;
      grew = c.in_ok-burst.ensures.ok;
      entered = c.in_ok-burst.ensures.mine;
      count = c.in_ok-burst.ensures.count;
      current = c.in_ok-burst.ensures.current;
    }) in
    let some : 0 < length ps = search rules in
    record {
      seat = c.in_ok-burst.ensures.seat;
      caller = c.in_ok-burst.ensures.caller;
      turns = omega (arith, some, c.in_ok-burst.ensures.turns);
      calls = calls_turn port old new replica ps vs turn;
      frames = on_ok_always c.keep_sent.result (frames_turn port old new replica ps vs turn);
      numbers = on_ok_always c.keep_sent.result (numbers_turn port old new replica ps vs turn);
      stands = c.in_ok-burst.ensures.replica;
      keeps = c.keep_sent.ensures.keeps;
      kept = on_ok_weaker c.keep_sent.result
          (λ keep look finds before.
          let past = sent_by (whose old).0 (limits_of port) look (opening_of port) (since port (seen old)) in
          subst (λ (sent : List (List ℕ)). AreKept sent c.keep_sent.new.kept) (sym (sent_turn port old new replica ps vs turn look (lent burst) c.requires.has.packed finds)) (keep past before))
          c.keep_sent.ensures.kept;
    }
