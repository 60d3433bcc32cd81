use Rattle.std.proofs.Common.{sym, ap, ◌∙◌, length, Option}
use Rattle.std.specs.Option.{option_map, option_copied}
use Rattle.flow_rules.specs.RuleView.{RuleView}
use Rattle.rules_in_effect.specs.Entries.{rule_in}
use Rattle.rules_in_effect.proofs.Distinct.{rule_at-entry}
use Rattle.port_state.specs.Raising.{actions_in}
use Rattle.port_state.proofs.raising.actions_of.Goals as goal

pub returns-in-Some-clause-number : goal.returns-in-Some-clause-number
returns-in-Some-clause-number c =
    let found = rule_at-entry c.args.id c.args.rules.now.list ∙ ap (option_map rule_in) (sym c.get.ensures ∙ ap option_copied c.in-Some.is) in
    c.len.ensures.value ∙ ap length (c.actions.ensures.list ∙ ap (λ (r : RuleView). r.actions) c.get-in-Some.ensures) ∙ sym (ap (λ (o : Option RuleView). length (actions_in o)) found)

pub returns-in-None-clause-number : goal.returns-in-None-clause-number
returns-in-None-clause-number c =
    let found = rule_at-entry c.args.id c.args.rules.now.list ∙ ap (option_map rule_in) (sym c.get.ensures ∙ ap option_copied c.in-None.is) in
    sym (ap (λ (o : Option RuleView). length (actions_in o)) found)
