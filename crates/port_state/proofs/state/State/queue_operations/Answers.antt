use Rattle.std.proofs.Common.{subst}
use Rattle.port_state.specs.Effect.{AreQueuesDue}
use Rattle.port_state.specs.KeptState.{state_in}
use Rattle.port_state.proofs.Waiting.{there-queue}
use Rattle.port_state.proofs.Places.{no-first}
use Rattle.port_state.proofs.state.State.queue_operations.Goals as goal

pub held_number-requires : goal.held_number-requires
held_number-requires c =
    let s = state_in c.args.self.now in
    let due = subst (AreQueuesDue s) c.in-Enqueued.is c.requires in
    there-queue s c.in-Enqueued.queue (no-first _ _ due.0)

pub held_number-requires-in-Pushed : goal.held_number-requires-in-Pushed
held_number-requires-in-Pushed c =
    let s = state_in c.args.self.now in
    there-queue s c.in-Pushed.queue (subst (AreQueuesDue s) c.in-Pushed.is c.requires)
