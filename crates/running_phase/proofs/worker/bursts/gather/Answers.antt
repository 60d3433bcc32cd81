use Rattle.std.proofs.Common.{rules, ◌≡◌, ◌+◌, ◌∷◌, length, arith}
use Rattle.running_phase.proofs.Taking.{Took-more}
use Rattle.running_phase.proofs.worker.bursts.gather.Goals as goal

pub loop-caller-preserved : goal.loop-caller-preserved
loop-caller-preserved g c =
    let left = c.loop-caller.left.now in
    let parts : left ≡ c.in-Some.frame.now ∷ c.in-Some.behind.now = c.in-Some.ensures.cases.0 in
    let shorter : length c.in-Some.behind.now + 1 ≡ length left = c.in-Some.ensures.cases.1 in
    let more = c.in_ok-offer.ensures.count in
    record {
      took = Took-more c.args.workers c.args.caller.0 c.args.replica.now.flows c.args.rest.now left c.loop-caller.burst c.offer.new.burst c.in-Some.frame.now c.in-Some.behind.now
          c.loop-caller.invariant.took parts c.in_ok-offer.ensures.has;
      fewer = omega (arith, shorter, more, c.loop-caller.invariant.fewer);
      count = search (rules, more);
    }
