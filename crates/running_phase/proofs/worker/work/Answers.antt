use Rattle.std.proofs.Common.{◌≡◌, ◌∙◌, ◌++◌, map, subst, sym, arith}
use Rattle.flow_calls.specs.declared.caller.Caller.{Caller}
use Rattle.flow_calls.specs.declared.parcel.Parcel.{Parcel}
use Rattle.flow_calls.specs.Entries.{numbers_by, parcels_of}
use Rattle.flow_port.specs.Bursts.{Rise}
use Rattle.flow_port.specs.Ports.{limits_of, mine, opening_of, seen, since, whose}
use Rattle.running_phase.specs.Copies.{parcels}
use Rattle.running_phase.specs.Sends.{AreKept, sent_by}
use Rattle.running_phase.specs.Shares.{share_of}
use Rattle.running_phase.specs.Turns.{Took}
use Rattle.running_phase.proofs.Taking.{adds_up, below_left, finds_burst, finds_left, rises_burst, rises_left, share_left}
use Rattle.running_phase.proofs.worker.work.Goals as goal

pub pass-requires-clause-left : goal.pass-requires-clause-left
pass-requires-clause-left g c =
    let few = c.in_ok-rest.ensures.few in
    let left = c.loop-rest.invariant.left in
    omega (arith, few, left)

pub pass-requires-clause-numbers : goal.pass-requires-clause-numbers
pass-requires-clause-numbers g c =
    let workers = c.args.frames.now.workers in
    let flows = c.loop-rest.worker.replica.flows in
    let copies = c.loop-rest.rest.now in
    let left = c.in_ok-rest.rest.now in
    let burst = c.gather.new.burst in
    let history = seen c.loop-rest.seat in
    let took : Took workers (whose c.args.seat.now).0 flows copies left burst
    = subst (λ (who : Caller). Took workers who.0 flows copies left burst) c.caller-caller.ensures c.in_ok-rest.ensures.took in
    subst (λ (who : Caller). Rise who.0 history burst.parcels.items) (sym c.loop-rest.invariant.caller)
    (rises_burst workers (whose c.args.seat.now).0 flows copies left burst took history c.loop-rest.invariant.rising c.loop-rest.invariant.behind)

pub returns-in_err-pass-clause-calls : goal.returns-in_err-pass-clause-calls
returns-in_err-pass-clause-calls g c = λ who. c.in_err-pass.ensures.calls who ∙ c.loop-rest.invariant.calls who

pub loop-rest-preserved : goal.loop-rest-preserved
loop-rest-preserved g c =
    let port = c.args.port.now in
    let workers = c.args.frames.now.workers in
    let who = (whose c.args.seat.now).0 in
    let same = c.loop-rest.invariant.caller in
    let flows = c.loop-rest.worker.replica.flows in
    let copies = c.loop-rest.rest.now in
    let left = c.in_ok-rest.rest.now in
    let burst = c.gather.new.burst in
    let old = c.loop-rest.seat in
    let new = c.pass.new.seat in
    let took : Took workers who flows copies left burst
    = subst (λ (k : Caller). Took workers k.0 flows copies left burst) c.caller-caller.ensures c.in_ok-rest.ensures.took in
    let few = c.in_ok-rest.ensures.few in
    let turns = c.in_ok-pass.ensures.turns in
    let numbers : numbers_by who (seen new) ≡ numbers_by who (seen old) ++ map (λ (p : Parcel). p.number) burst.parcels.items
    = subst (λ (k : Caller). numbers_by k.0 (seen new) ≡ numbers_by k.0 (seen old) ++ map (λ (p : Parcel). p.number) burst.parcels.items) same c.in_ok-pass.ensures.numbers in
    record {
      seat = c.in_ok-pass.ensures.seat;
      caller = c.in_ok-pass.ensures.caller ∙ same;
      left = omega (arith, few, turns, c.loop-rest.invariant.left);
      rising = rises_left workers who flows copies left burst took (seen old) c.loop-rest.invariant.rising c.loop-rest.invariant.behind;
      behind = below_left workers who flows copies left burst took (seen old) c.loop-rest.invariant.rising c.loop-rest.invariant.behind (seen new) numbers;
      stands = c.in_ok-pass.ensures.stands;
      calls = λ k. c.in_ok-pass.ensures.calls k ∙ c.loop-rest.invariant.calls k;
      frames = adds_up (parcels_of (mine port new)) (parcels_of (mine port old)) burst.parcels.items (share_of workers who (parcels left)) (share_of workers who (parcels copies))
          (parcels_of (mine port c.args.seat.now) ++ share_of workers who (parcels c.args.frames.now.copies.now))
          c.in_ok-pass.ensures.frames (share_left workers who flows copies left burst took) c.loop-rest.invariant.frames;
      keeps = c.in_ok-pass.ensures.keeps ∙ c.loop-rest.invariant.keeps;
      found = λ look finds. finds_left look workers who flows copies left burst took (c.loop-rest.invariant.found look finds);
      kept = λ look finds start.
          let P : Caller → Type 0 = λ k.
          AreKept (sent_by k.0 (limits_of port) look (opening_of port) (since port (seen old))) c.loop-rest.worker.kept
          → AreKept (sent_by k.0 (limits_of port) look (opening_of port) (since port (seen new))) c.pass.new.worker.kept in
          subst P same (c.in_ok-pass.ensures.kept look (finds_burst look workers who flows copies left burst took (c.loop-rest.invariant.found look finds)))
          (c.loop-rest.invariant.kept look finds start);
    }
