use Rattle.std.proofs.Common.{◌≡◌, ℕ, refl, sym, ap, ◌∙◌, Some, None, Option, is_some, not}
use Rattle.std.specs.List.{list_any}
use Rattle.std.specs.Option.{is_none, option_copied}
use Rattle.rules_in_effect.specs.declared.in_effect.InEffect.{InEffect}
use Rattle.rules_in_effect.specs.Entries as rules
use Rattle.port_state.specs.State.{is_table_rule_of}
use Rattle.port_state.specs.KeptState.{KeptState, state_in}
use Rattle.port_state.specs.StateInside.{state_kept}
use Rattle.port_state.proofs.RulesKept.{table-found, is_table_entry}
use Rattle.port_state.proofs.state.State.is_in_table.Goals as goal

asked : (kept now : KeptState) → kept ≡ now → rules.AreDistinct kept.rules → (id : ℕ) (o : Option InEffect) → rules.entry_at id kept.rules ≡ o
    → list_any (is_table_rule_of id) (state_in now).rules ≡ is_table_entry o
asked kept now same distinct id o found =
    ap (λ (k : KeptState). list_any (is_table_rule_of id) (state_in k).rules) (sym same) ∙ table-found id kept.rules distinct ∙ ap is_table_entry found

some-not : (o : Option ℕ) → is_some o ≡ not (is_none o)
some-not None = refl
some-not (Some x) = refl

pub returns-in-Some : goal.returns-in-Some
returns-in-Some c =
    c.is_some.ensures ∙ some-not c.in-Some.entry.now.table
    ∙ sym (asked (state_kept c.self.inside) _ c.self.view_is c.len-number.ensures.distinct c.args.id (Some c.in-Some.entry.now) (sym c.get.ensures ∙ ap option_copied c.in-Some.is))

pub returns-in-None : goal.returns-in-None
returns-in-None c =
    sym (asked (state_kept c.self.inside) _ c.self.view_is c.len-number.ensures.distinct c.args.id None (sym c.get.ensures ∙ ap option_copied c.in-None.is))
