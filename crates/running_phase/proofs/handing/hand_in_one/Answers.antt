use Rattle.running_phase.proofs.handing.hand_in_one.Goals as goal

pub returns-clause-list : goal.returns-clause-list
returns-clause-list c = c.push-pushed.ensures.list c.args.port.now c.requires.list
