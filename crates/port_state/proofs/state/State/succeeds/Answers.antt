use Rattle.std.proofs.Common.{◌≡◌, ◌∙◌, Bool, true, false, not, refl, sym, ap, subst, Option}
use Rattle.std.specs.Option.{is_none}
use Rattle.flow_rules.specs.declared.fault.Fault.{Fault}
use Rattle.port_state.specs.Apart.{IsFit}
use Rattle.port_state.specs.KeptState.{state_in}
use Rattle.port_state.specs.State.{objects, succeeds}
use Rattle.indirect_counters.specs.Refusals as shared_calls
use Rattle.port_state.proofs.Succeeds.{update-succeeds}
use Rattle.port_state.proofs.state.State.succeeds.Goals as goal

not-not : (b : Bool) → not (not b) ≡ b
not-not true = refl
not-not false = refl

pub returns-in-SharedUpdated : goal.returns-in-SharedUpdated
returns-in-SharedUpdated c =
    let s = state_in c.args.self.now in
    let id = c.in-SharedUpdated.id in
    let value = c.in-SharedUpdated.action in
    let fit = subst (IsFit s.rxq) c.in-SharedUpdated.is c.requires.fit in
    sym (not-not c.is_none.result) ∙ ap not (sym c.is_none.ensures) ∙ ap (λ (o : Option Fault). is_none o) c.update_fault.ensures
    ∙ ap (λ rxq. is_none (shared_calls.update_fault rxq (objects s) id value)) c.requires.port
    ∙ update-succeeds s s.rxq id value fit
    ∙ sym (ap (succeeds s) c.in-SharedUpdated.is)
