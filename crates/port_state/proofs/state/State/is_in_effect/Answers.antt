use Rattle.std.proofs.Common.{◌≡◌, ℕ, sym, ap, ◌∙◌, Some, None, Option, not}
use Rattle.std.specs.Option.{option_copied}
use Rattle.rules_in_effect.specs.declared.in_effect.InEffect.{InEffect}
use Rattle.rules_in_effect.specs.Entries as rules
use Rattle.port_state.specs.State.{is_in_effect}
use Rattle.port_state.specs.KeptState.{KeptState, state_in}
use Rattle.port_state.specs.StateInside.{state_kept}
use Rattle.port_state.proofs.RulesKept.{plain-found, is_plain_entry}
use Rattle.port_state.proofs.state.State.is_in_effect.Goals as goal

asked : (kept now : KeptState) → kept ≡ now → rules.AreDistinct kept.rules → (id : ℕ) (o : Option InEffect) → rules.entry_at id kept.rules ≡ o
    → is_in_effect id (state_in now) ≡ is_plain_entry o
asked kept now same distinct id o found = ap (λ (k : KeptState). is_in_effect id (state_in k)) (sym same) ∙ plain-found id kept.rules distinct ∙ ap is_plain_entry found

pub returns : goal.returns
returns c =
    ap not c.is_some.ensures ∙ sym (asked (state_kept c.self.inside) _ c.self.view_is c.len-number.ensures.distinct c.args.id (Some c.in-Some.entry.now) (sym c.get.ensures ∙ ap option_copied c.in-Some.is))

pub returns-in_default : goal.returns-in_default
returns-in_default c =
    sym (asked (state_kept c.self.inside) _ c.self.view_is c.len-number.ensures.distinct c.args.id None (sym c.get.ensures ∙ ap option_copied c.in_default.is))
