use Rattle.std.proofs.Common.{arith, ap, ◌∙◌}
use Rattle.op_queues.specs.OpQueue.{Queue}
use Rattle.port_state.specs.declared.held.Held.{Held}
use Rattle.port_state.specs.Queue.{FlowQueue}
use Rattle.port_state.proofs.QueuesRead.{kept-below, read-queue}
use Rattle.port_state.proofs.state.State.results.Goals as goal

pub index-requires : goal.index-requires
index-requires c = omega (arith, c.self.inside.queues.ok, kept-below c.self.inside _ c.self.view_is c.args.queue c.requires)

pub returns : goal.returns
returns c =
    let s = c.self.inside in
    c.results.ensures ∙ ap (λ (q : Queue Held). q.results) c.index.ensures
    ∙ read-queue s _ c.self.view_is c.args.queue c.index.result.now (kept-below s _ c.self.view_is c.args.queue c.requires) (λ (q : FlowQueue). q.results)
