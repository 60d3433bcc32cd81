use Rattle.test_crews.proofs.seating.hand_in.Goals as goal

pub returns-clause-list : goal.returns-clause-list
returns-clause-list c = c.push.ensures.list c.args.port.now c.requires.list
