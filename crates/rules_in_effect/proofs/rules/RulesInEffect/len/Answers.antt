use Rattle.std.proofs.Common.{subst, map}
use Rattle.flow_rules.specs.Naming.{HaveOwnIds}
use Rattle.rules_in_effect.specs.Entries.{rule_in}
use Rattle.rules_in_effect.specs.Order.{entries}
use Rattle.rules_in_effect.specs.RulesView.{RulesView}
use Rattle.rules_in_effect.proofs.Distinct.{HaveOwnIds-distinct}
use Rattle.rules_in_effect.proofs.rules.RulesInEffect.len.Goals as goal

pub returns-clause-own : goal.returns-clause-own
returns-clause-own c =
    subst (λ (v : RulesView). HaveOwnIds (map rule_in v.list)) c.self.view_is (HaveOwnIds-distinct (entries c.self.inside.order.kept) c.self.invariant.0.distinct)
