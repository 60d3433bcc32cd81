use Rattle.std.proofs.Common.{◌^◌, ◌-◌, cond, sym, ap, ◌∙◌, Some, None, arith}
use Rattle.std.proofs.lemmas.Bool.{le-leb}
use Rattle.flow_rules.specs.declared.fault.Cause.TheVariants as causes
use Rattle.port_state.specs.KeptState.{KeptState, state_in}
use Rattle.port_state.specs.State.{ids_fault, plain}
use Rattle.port_state.proofs.state.State.ids_fault.Goals as goal

pub returns-then-self : goal.returns-then-self
returns-then-self c =
    let most = le-leb (2 ^ 32 - 1) c.self.inside.ids (omega (arith, c.if-self.true)) in
    ap Some c.plain.ensures ∙ sym (ap (λ b. cond b (Some (plain causes.TooMany)) None) most) ∙ ap (λ (k : KeptState). ids_fault (state_in k)) c.self.view_is
