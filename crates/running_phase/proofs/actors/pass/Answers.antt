use Rattle.running_phase.proofs.Acting.{fresh_behind, fresh_stands, passed_kept, passed_part, passed_worker}
use Rattle.running_phase.proofs.actors.pass.Goals as goal

pub work-requires-clause-behind : goal.work-requires-clause-behind
work-requires-clause-behind g c = fresh_behind c.args.port.now c.args.plan.now c.requires.plan c.args.seat.now c.requires.seat

pub work-requires-clause-stands : goal.work-requires-clause-stands
work-requires-clause-stands g c = fresh_stands c.args.port.now c.args.plan.now c.requires.plan c.args.seat.now c.requires.seat c.args.worker.now.replica c.requires.worker.stands

pub returns-clause-did : goal.returns-clause-did
returns-clause-did g c =
    passed_part c.args.port.now c.args.plan.now c.requires.plan c.args.seat.now c.requires.seat c.work.result c.work.new.seat c.work.ensures.caller c.args.worker.now c.requires.worker c.work.ensures.calls c.work.ensures.frames

pub returns-clause-worker : goal.returns-clause-worker
returns-clause-worker g c =
    passed_worker c.args.port.now c.args.plan.now c.requires.plan c.args.seat.now c.requires.seat c.work.result c.work.new.seat c.work.ensures.caller c.args.worker.now c.work.new.worker c.requires.worker c.work.ensures.stands c.work.ensures.keeps

pub returns-clause-kept : goal.returns-clause-kept
returns-clause-kept g c =
    passed_kept c.args.port.now c.args.plan.now c.requires.plan c.args.seat.now c.requires.seat c.work.result c.work.new.seat c.work.ensures.caller c.args.worker.now c.work.new.worker c.requires.worker c.work.ensures.kept
