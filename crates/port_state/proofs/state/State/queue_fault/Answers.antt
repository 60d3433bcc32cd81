use Rattle.std.proofs.Common.{sym, ap, ◌∙◌, Some, arith}
use Rattle.port_state.specs.KeptState.{KeptState, state_in}
use Rattle.port_state.specs.State.{queue_fault}
use Rattle.port_state.specs.StateInside.{state_kept}
use Rattle.port_state.proofs.QueuesRead.{no-queue, a-queue, queues-length}
use Rattle.port_state.proofs.state.State.queue_fault.Goals as goal

pub returns-then-queue-len : goal.returns-then-queue-len
returns-then-queue-len c =
    let s = state_kept c.self.inside in
    ap Some c.plain.ensures
    ∙ sym (no-queue (state_in s) c.args.queue (omega (arith, c.if-queue-len.true, c.len.ensures, c.self.inside.queues.ok, queues-length c.self.inside.queues.items)))
    ∙ ap (λ (k : KeptState). queue_fault (state_in k) c.args.queue) c.self.view_is

pub returns : goal.returns
returns c =
    let s = state_kept c.self.inside in
    sym (a-queue (state_in s) c.args.queue (omega (arith, c.if-queue-len.false, c.len.ensures, c.self.inside.queues.ok, queues-length c.self.inside.queues.items)))
    ∙ ap (λ (k : KeptState). queue_fault (state_in k) c.args.queue) c.self.view_is
