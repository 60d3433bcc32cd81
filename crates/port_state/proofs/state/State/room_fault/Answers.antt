use Rattle.std.proofs.Common.{cond, count_by, sym, ap, ◌∙◌, Some, arith}
use Rattle.std.proofs.lemmas.Bool.{le-leb, lt-leb}
use Rattle.flow_rules.specs.declared.fault.Cause.TheVariants as causes
use Rattle.port_state.specs.KeptState.{KeptState, state_in}
use Rattle.port_state.specs.State.{ids_fault, is_plain, plain, room_fault}
use Rattle.port_state.specs.StateInside.{state_kept}
use Rattle.port_state.proofs.RulesKept.{plain-placed}
use Rattle.port_state.proofs.state.State.room_fault.Goals as goal

pub returns-then-plain_len-limits : goal.returns-then-plain_len-limits
returns-then-plain_len-limits c =
    let s = state_in (state_kept c.self.inside) in
    let full = le-leb c.args.limits.now.flow_max (count_by is_plain s.rules) (omega (arith, c.if-plain_len-limits.true, c.plain_len.ensures, plain-placed c.self.inside.rules.list)) in
    ap Some c.plain.ensures ∙ sym (ap (λ b. cond b (Some (plain causes.StoreFull)) (ids_fault s)) full) ∙ ap (λ (k : KeptState). room_fault c.args.limits.now (state_in k)) c.self.view_is

pub returns : goal.returns
returns c =
    let s = state_in (state_kept c.self.inside) in
    let left = lt-leb c.args.limits.now.flow_max (count_by is_plain s.rules) (omega (arith, c.if-plain_len-limits.false, c.plain_len.ensures, plain-placed c.self.inside.rules.list)) in
    c.ids_fault.ensures ∙ ap (λ (k : KeptState). ids_fault (state_in k)) (sym c.self.view_is)
    ∙ sym (ap (λ b. cond b (Some (plain causes.StoreFull)) (ids_fault s)) left) ∙ ap (λ (k : KeptState). room_fault c.args.limits.now (state_in k)) c.self.view_is
