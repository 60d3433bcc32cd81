use Rattle.std.proofs.Common.{◌∙◌, nat_eq, sym, ap, Some, arith}
use Rattle.flow_rules.specs.declared.fault.Cause.TheVariants as causes
use Rattle.flow_rules.specs.Faults.{fault_if, first}
use Rattle.op_queues.specs.OpQueue as op_queues
use Rattle.op_queues.specs.OpQueue.{Queue}
use Rattle.port_state.specs.declared.held.Held.{Held}
use Rattle.port_state.specs.Queue.{in_flight}
use Rattle.port_state.specs.KeptState.{KeptState, state_in}
use Rattle.port_state.specs.State.{first_of, full_fault, queue_at, queue_fault}
use Rattle.port_state.specs.StateInside.{state_kept}
use Rattle.port_state.proofs.QueuesRead.{full-none, full-some, kept-below, same-flight}
use Rattle.port_state.proofs.state.State.full_fault.Goals as goal

pub returns-in-Some : goal.returns-in-Some
returns-in-Some c =
    let s = state_in c.args.self.now in
    ap (λ o. first_of o (first (fault_if (nat_eq (in_flight (queue_at c.args.queue s)) s.queue_size) causes.QueueFull 0))) (sym c.in-Some.is ∙ c.queue_fault.ensures)

pub index-requires : goal.index-requires
index-requires c = omega (arith, c.self.inside.queues.ok, kept-below c.self.inside _ c.self.view_is c.args.queue (sym c.queue_fault.ensures ∙ c.in_default.is))

pub returns-then-in_flight-self : goal.returns-then-in_flight-self
returns-then-in_flight-self c =
    let s = c.self.inside in
    let none = sym c.queue_fault.ensures ∙ c.in_default.is in
    let below = kept-below s _ c.self.view_is c.args.queue none in
    let is = same-flight s.queues.items s.queue_size c.args.queue c.index.result.now c.self.invariant.queues below
    ∙ sym (c.in_flight.ensures.number ∙ ap (λ (q : Queue Held). op_queues.in_flight q) c.index.ensures) in
    ap Some c.plain.ensures
    ∙ sym (full-some (state_in (state_kept s)) c.args.queue c.in_flight.result (ap (λ (k : KeptState). queue_fault (state_in k) c.args.queue) c.self.view_is ∙ none) is c.if-in_flight-self.true)
    ∙ ap (λ (k : KeptState). full_fault (state_in k) c.args.queue) c.self.view_is

pub returns : goal.returns
returns c =
    let s = c.self.inside in
    let none = sym c.queue_fault.ensures ∙ c.in_default.is in
    let below = kept-below s _ c.self.view_is c.args.queue none in
    let is = same-flight s.queues.items s.queue_size c.args.queue c.index.result.now c.self.invariant.queues below
    ∙ sym (c.in_flight.ensures.number ∙ ap (λ (q : Queue Held). op_queues.in_flight q) c.index.ensures) in
    sym (full-none (state_in (state_kept s)) c.args.queue c.in_flight.result (ap (λ (k : KeptState). queue_fault (state_in k) c.args.queue) c.self.view_is ∙ none) is c.if-in_flight-self.false)
    ∙ ap (λ (k : KeptState). full_fault (state_in k) c.args.queue) c.self.view_is
