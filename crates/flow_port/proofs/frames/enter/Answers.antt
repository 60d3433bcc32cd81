use Rattle.std.proofs.Common.{subst}
use Rattle.std.proofs.lemmas.Result.{on_ok_weaker}
use Rattle.adapter.specs.Seen.{Grows}
use Rattle.flow_port.proofs.Passing.{are_frames, current_entered, Stands_entered}
use Rattle.flow_port.proofs.frames.enter.Goals as goal

pub burst-requires : goal.burst-requires
burst-requires c =
    are_frames c.args.adapter.now.limits c.args.adapter.now.history c.args.frames.now.caller c.args.frames.now.parcels.now c.fit.new.verdicts.items c.in_ok-ready.ready.items c.requires.worker c.in_ok-ready.ensures.fit

pub returns-clause-stands : goal.returns-clause-stands
returns-clause-stands c =
    Stands_entered c.burst.result c.args.adapter.now c.burst.new.self c.in_ok-ready.ready.items c.fit.new.replica c.burst.ensures.entered c.burst.ensures.err c.fit.ensures.stands

pub returns-clause-current : goal.returns-clause-current
returns-clause-current c =
    on_ok_weaker c.burst.result
    (λ grows. current_entered c.args.adapter.now c.burst.new.self c.args.frames.now.caller c.args.frames.now.parcels.now c.fit.new.verdicts.items c.fit.new.replica
    (subst (Grows c.args.adapter.now c.burst.new.self) c.in_ok-ready.ensures.fit.packed grows) c.in_ok-ready.ensures.current)
    c.burst.ensures.entered
