use Rattle.std.proofs.Common.{◌∙◌}
use Rattle.flow_port.specs.Ports.{seats_in}
use Rattle.test_crews.proofs.Crews.{gathered}
use Rattle.test_crews.proofs.seating.gather.Goals as goal

pub loop-member-preserved-in-Some : goal.loop-member-preserved-in-Some
loop-member-preserved-in-Some c =
    let old = c.loop-member.invariant in
    let now = gathered c.args.port.now c.loop-member.crew.items c.pop.new.self.items c.in-Some.member (seats_in c.loop-member.seats) (seats_in c.hand_in.new.seats) _
    c.in-Some.ensures.items c.hand_in.ensures.seats old.done old.seats old.count in
    record { done = now.0; seats = now.1; count = now.2; list = c.hand_in.ensures.list; limit = c.hand_in.ensures.limit ∙ old.limit }

pub loop-member-preserved : goal.loop-member-preserved
loop-member-preserved c =
    let old = c.loop-member.invariant in
    let now = gathered c.args.port.now c.loop-member.crew.items c.pop.new.self.items c.in-Some.member (seats_in c.loop-member.seats) (seats_in c.hand_in.new.seats) _
    c.in-Some.ensures.items c.hand_in.ensures.seats old.done old.seats old.count in
    record { done = now.0; seats = now.1; count = now.2; list = c.hand_in.ensures.list; limit = c.hand_in.ensures.limit ∙ old.limit }
