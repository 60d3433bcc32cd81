use Rattle.std.proofs.Common.{sym, subst}
use Rattle.port_state.specs.Apart.{AreApart}
use Rattle.port_state.specs.Effect.{AreQueuesDue}
use Rattle.port_state.specs.KeptState.{state_in}
use Rattle.port_state.proofs.ApartKept.{AreApart-waiting}
use Rattle.port_state.proofs.Waiting.{there-full}
use Rattle.port_state.proofs.state.State.change_queues.Goals as goal

pub push-requires-clause-apart : goal.push-requires-clause-apart
push-requires-clause-apart c =
    let s = state_in c.args.self.now in
    let due = subst (AreQueuesDue s) c.in-Enqueued.is c.requires.due in
    subst AreApart (sym c.hold.ensures.state)
    (AreApart-waiting c.in-Enqueued.queue c.in-Enqueued.op s (there-full s c.in-Enqueued.queue due.0) due.1 c.requires.apart)
