use Rattle.std.proofs.Common.{Some, sym, ap, ◌∙◌}
use Rattle.std.specs.Option.{option_map, option_copied}
use Rattle.flow_rules.specs.Naming.{rule_at}
use Rattle.rules_in_effect.specs.Entries.{rule_in}
use Rattle.rules_in_effect.proofs.Distinct.{rule_at-entry}
use Rattle.replica.proofs.rule_list.RuleList.rule.Goals as goal

pub returns-in-Some : goal.returns-in-Some
returns-in-Some c =
    ap Some c.get-in-Some.ensures ∙ ap (option_map rule_in) (sym (ap option_copied c.in-Some.is) ∙ c.get.ensures)
    ∙ sym (rule_at-entry c.args.id c.self.inside.rules.list) ∙ ap (rule_at c.args.id) c.self.view_is

pub returns-in-None : goal.returns-in-None
returns-in-None c =
    ap (option_map rule_in) (sym (ap option_copied c.in-None.is) ∙ c.get.ensures)
    ∙ sym (rule_at-entry c.args.id c.self.inside.rules.list) ∙ ap (rule_at c.args.id) c.self.view_is
