use Rattle.std.proofs.Common.{◌≡◌, None, List, map, sym, ap, ◌∙◌, subst}
use Rattle.flow_rules.specs.Naming.{rule_at}
use Rattle.flow_rules.specs.RuleView.{RuleView}
use Rattle.rules_in_effect.specs.Entries.{rule_in, entry_at}
use Rattle.replica.proofs.Entries.{entry_at-none}
use Rattle.replica.proofs.rule_list.RuleList.push.Goals as goal

pub push-requires-clause-fresh : goal.push-requires-clause-fresh
push-requires-clause-fresh c =
    let id = c.args.rule.now.id in
    let list = c.self.inside.rules.list in
    let none : rule_at id (map rule_in list) ≡ None = subst (λ (rules : List RuleView). rule_at id rules ≡ None) (sym c.self.view_is) c.requires in
    ap (λ (copy : RuleView). entry_at copy.id c.reserve.new.self.list) c.in_ok-copy.ensures.cases ∙ ap (entry_at id) c.reserve.ensures.same ∙ entry_at-none id list none
