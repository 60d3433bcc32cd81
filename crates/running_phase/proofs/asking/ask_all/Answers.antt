use Rattle.std.proofs.Common.{◌∙◌, ap, arith}
use Rattle.flow_calls.specs.declared.caller.Caller.{Caller}
use Rattle.flow_calls.specs.Entries.{calls_by, parcels_of}
use Rattle.flow_port.specs.Ports.{mine, whose}
use Rattle.running_phase.proofs.Doing.{calls_after, frames_after}
use Rattle.running_phase.proofs.asking.ask_all.Goals as goal

pub loop-call-preserved : goal.loop-call-preserved
loop-call-preserved g c =
    let port = c.args.port.now in
    let who = (whose c.args.seat.now).0 in
    let before = mine port c.loop-call.seat in
    let spent = c.call.ensures.turns in
    let left = c.loop-call.invariant.left in
    record {
      seat = c.call.ensures.seat;
      caller = c.call.ensures.caller ∙ c.loop-call.invariant.caller;
      left = omega arith;
      asked = calls_after who c.args.calls.now c.loop-call.call-index (calls_by who (mine port c.args.seat.now)) before (mine port c.call.new.seat) (whose c.loop-call.seat) c.call-item.result c.in_ok-call.field-0
          (ap (λ (k : Caller). k.0) c.loop-call.invariant.caller) c.in_ok-call.ensures.mine c.loop-call.invariant.asked c.loop-call-test.true c.call-item.is;
      frames = frames_after before (mine port c.call.new.seat) (parcels_of (mine port c.args.seat.now)) (whose c.loop-call.seat) c.call-item.result c.in_ok-call.field-0 c.in_ok-call.ensures.mine c.loop-call.invariant.frames;
    }
