use Rattle.std.proofs.Common.{ap, ◌∙◌, map}
use Rattle.flow_rules.specs.Changes.{without}
use Rattle.rules_in_effect.specs.Entries.{rule_in}
use Rattle.replica.proofs.Entries.{rules-without}
use Rattle.replica.proofs.rule_list.RuleList.remove.Goals as goal

pub returns : goal.returns
returns c = ap (map rule_in) c.remove.ensures.others ∙ rules-without c.args.id c.self.inside.rules.list ∙ ap (without c.args.id) c.self.view_is
