use Rattle.std.proofs.Common.{arith, length, ap, ◌∙◌}
use Rattle.op_queues.specs.OpQueue.{Queue}
use Rattle.port_state.specs.declared.held.Held.{Held}
use Rattle.port_state.specs.Queue.{FlowQueue}
use Rattle.port_state.proofs.QueuesRead.{kept-there, read-queue}
use Rattle.port_state.proofs.state.State.held_number.Goals as goal

pub index-requires : goal.index-requires
index-requires c = omega (arith, c.self.inside.queues.ok, kept-there c.self.inside _ c.self.view_is c.args.queue c.requires)

pub returns : goal.returns
returns c =
    let s = c.self.inside in
    c.held_len.ensures.number ∙ ap (λ (q : Queue Held). length q.held) c.index.ensures
    ∙ read-queue s _ c.self.view_is c.args.queue c.index.result.now (kept-there s _ c.self.view_is c.args.queue c.requires) (λ (q : FlowQueue). length q.held)
