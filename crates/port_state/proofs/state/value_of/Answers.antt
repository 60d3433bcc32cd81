use Rattle.std.proofs.Common.{◌≡◌, ◌<◌, ◌^◌, Bor, Option, None, Some, IsSome, IfSome, refl, sym, ap, ◌∙◌, arith}
use Rattle.std.specs.Option.{option_map, option_copied}
use Rattle.flow_actions.specs.declared.action.Action.{Action}
use Rattle.indirect_counters.specs.declared.shared_action.SharedAction.{SharedAction}
use Rattle.indirect_counters.specs.Entries.{in_effect_at}
use Rattle.indirect_counters.proofs.Effects.{seen-at}
use Rattle.indirect_counters.proofs.Lawful.{in_effect-short}
use Rattle.port_state.proofs.state.value_of.Goals as goal

-- no id is longer than 16 bits
pub returns-then-id-clause-value : goal.returns-then-id-clause-value
returns-then-id-clause-value c =
    sym (seen-at c.args.id c.args.shared.now.entries c.len-number.ensures.sound.ids
    ∙ ap (option_map (λ (e : SharedAction). e.value)) (in_effect-short c.args.id c.args.shared.now.entries c.len-number.ensures.sound.lawful (omega (arith, c.if-id.true))))

pub returns-clause-value : goal.returns-clause-value
returns-clause-value c = c.value.ensures.value ∙ sym (seen-at c.args.id c.args.shared.now.entries c.len-number.ensures.sound.ids)

there : (short : Type 0) (r : Option (Bor Action)) (o : Option SharedAction) → option_copied r ≡ option_map (λ (e : SharedAction). e.value) o → short → IfSome r (λ _. short × IsSome o)
there short None o same is = tt
there short (Some r) None same is = cc
there short (Some r) (Some e) same is = (is, refl)

pub returns-clause-there : goal.returns-clause-there
returns-clause-there c = there (c.args.id < 2 ^ 16) c.value.result (in_effect_at c.args.id c.args.shared.now.entries) c.value.ensures.value (omega (arith, c.if-id.false))
