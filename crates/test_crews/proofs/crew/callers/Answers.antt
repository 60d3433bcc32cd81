use Rattle.std.proofs.Common.{◌+◌, arith}
use Rattle.test_crews.proofs.Crews.{differ, known}
use Rattle.test_crews.proofs.crew.callers.Goals as goal

pub returns-clause-differ : goal.returns-clause-differ
returns-clause-differ c = differ c.loop-worker.callers.items c.loop-worker.invariant.rising

pub returns-clause-known : goal.returns-clause-known
returns-clause-known c =
    let few = c.requires in
    let end = c.loop-worker.auto.worker-end in
    known c.loop-worker.callers.items (9 + c.loop-worker.worker) (omega (arith, few, end)) c.loop-worker.invariant.below
