use Rattle.running_phase.proofs.middle.sent_in_order.Goals as goal

pub returns-then-keeps-clause-sent : goal.returns-then-keeps-clause-sent
returns-then-keeps-clause-sent c = λ look before middle grows at has.
    let lists = has c.if-keeps.true in
    c.in_ok-sent.ensures look before middle grows at lists.each lists.found lists.sent

pub returns-clause-sent : goal.returns-clause-sent
returns-clause-sent c = λ look before middle grows at has. tt
