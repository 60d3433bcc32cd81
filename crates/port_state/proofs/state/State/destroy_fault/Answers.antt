use Rattle.std.proofs.Common.{◌≡◌, ◌||◌, ℕ, Bool, true, false, refl, sym, ap, ◌∙◌, subst, None, Some, Option}
use Rattle.std.specs.Option.{option_copied}
use Rattle.std.specs.List.{list_any, IsDistinct}
use Rattle.std.specs.Map.{keys_of}
use Rattle.std.specs.Prelude.{nat_eq}
use Rattle.flow_actions.specs.declared.action.Action.{Action}
use Rattle.rules_in_effect.specs.Entries as rules
use Rattle.indirect_counters.specs.Entries.{value_at}
use Rattle.indirect_counters.specs.Refusals as shared_calls
use Rattle.port_state.specs.State.{all_held, is_held_user, objects}
use Rattle.port_state.specs.KeptState.{KeptState, state_in}
use Rattle.port_state.specs.StateInside.{state_kept}
use Rattle.port_state.proofs.Objects.{end_fault, objects-destroy}
use Rattle.port_state.proofs.state.State.destroy_fault.Goals as goal

-- why it stays, by what is kept: it isn't there, or rules use it
judged : (kept now : KeptState) → kept ≡ now → IsDistinct nat_eq (keys_of kept.shared) → (id : ℕ) (o : Option Action) (used : Bool) → value_at id kept.shared ≡ o
    → (list_any (rules.is_user id) now.rules || list_any (is_held_user id) (all_held (state_in now))) ≡ used → shared_calls.destroy_fault (objects (state_in now)) id ≡ end_fault o used
judged kept now same ids id o used is users =
    sym (objects-destroy now (subst (λ (k : KeptState). IsDistinct nat_eq (keys_of k.shared)) same ids) id)
    ∙ ap (λ (v : Option Action). end_fault v (list_any (rules.is_user id) now.rules || list_any (is_held_user id) (all_held (state_in now))))
    (ap (λ (k : KeptState). value_at id k.shared) (sym same) ∙ is)
    ∙ ap (end_fault o) users

pub returns-in_default : goal.returns-in_default
returns-in_default c =
    let missing = sym c.value.ensures.value ∙ ap option_copied c.in_default.is in
    ap Some c.plain.ensures ∙ sym (judged (state_kept c.self.inside) _ c.self.view_is c.len-number.ensures.sound.ids c.args.id None _ missing refl)

pub returns-then-has_users : goal.returns-then-has_users
returns-then-has_users c =
    let there = sym c.value.ensures.value ∙ ap option_copied c.in-Some.is in
    ap Some c.plain-then-has_users.ensures
    ∙ sym (judged (state_kept c.self.inside) _ c.self.view_is c.len-number.ensures.sound.ids c.args.id _ true there (sym c.has_users.ensures ∙ c.if-has_users.true))

pub returns : goal.returns
returns c =
    let there = sym c.value.ensures.value ∙ ap option_copied c.in-Some.is in
    sym (judged (state_kept c.self.inside) _ c.self.view_is c.len-number.ensures.sound.ids c.args.id _ false there (sym c.has_users.ensures ∙ c.if-has_users.false))
