use Rattle.std.proofs.Common.{◌++◌, ◌||◌, Bool, false, nat_eq, nat_lt, length, Some, Option, sym, ap, ◌∙◌, arith}
use Rattle.std.proofs.lemmas.Bool.{lt-ltb, le-ltb}
use Rattle.flow_rules.specs.declared.fault.Fault.{Fault}
use Rattle.flow_rules.specs.declared.fault.Cause.TheVariants as causes
use Rattle.flow_rules.specs.Faults.{fault_if, first}
use Rattle.port_state.specs.KeptState.{KeptState, state_in}
use Rattle.port_state.specs.State.{configure_refusals}
use Rattle.port_state.specs.StateInside.{state_kept}
use Rattle.port_state.proofs.QueuesRead.{queues-length}
use Rattle.port_state.proofs.state.State.configure_fault.Goals as goal

-- the first fault, by its two conditions
abbrev faults : Bool → Bool → Option Fault
faults there range = first (fault_if there causes.AlreadyConfigured 0 ++ fault_if range causes.QueueRange 0)

pub returns-then-len-gt0 : goal.returns-then-len-gt0
returns-then-len-gt0 c =
    let s = state_in (state_kept c.self.inside) in
    let there = lt-ltb 0 (length s.queues) (omega (arith, c.if-len-gt0.true, c.len.ensures, c.self.inside.queues.ok, queues-length c.self.inside.queues.items)) in
    ap Some c.plain.ensures
    ∙ sym (ap (λ b. faults b (nat_eq c.args.queues 0 || nat_lt 8 c.args.queues || nat_eq c.args.size 0 || nat_lt 1024 c.args.size)) there)
    ∙ ap (λ (k : KeptState). first (configure_refusals (state_in k) c.args.queues c.args.size)) c.self.view_is

pub returns-then-is_out_of_range : goal.returns-then-is_out_of_range
returns-then-is_out_of_range c =
    let s = state_in (state_kept c.self.inside) in
    let none = le-ltb 0 (length s.queues) (omega (arith, c.if-len-gt0.false, c.len.ensures, c.self.inside.queues.ok, queues-length c.self.inside.queues.items)) in
    ap Some c.plain-then-is_out_of_range.ensures
    ∙ sym (ap (faults false) (sym c.is_out_of_range.ensures ∙ c.if-is_out_of_range.true))
    ∙ sym (ap (λ b. faults b (nat_eq c.args.queues 0 || nat_lt 8 c.args.queues || nat_eq c.args.size 0 || nat_lt 1024 c.args.size)) none)
    ∙ ap (λ (k : KeptState). first (configure_refusals (state_in k) c.args.queues c.args.size)) c.self.view_is

pub returns : goal.returns
returns c =
    let s = state_in (state_kept c.self.inside) in
    let none = le-ltb 0 (length s.queues) (omega (arith, c.if-len-gt0.false, c.len.ensures, c.self.inside.queues.ok, queues-length c.self.inside.queues.items)) in
    sym (ap (faults false) (sym c.is_out_of_range.ensures ∙ c.if-is_out_of_range.false))
    ∙ sym (ap (λ b. faults b (nat_eq c.args.queues 0 || nat_lt 8 c.args.queues || nat_eq c.args.size 0 || nat_lt 1024 c.args.size)) none)
    ∙ ap (λ (k : KeptState). first (configure_refusals (state_in k) c.args.queues c.args.size)) c.self.view_is
