use Rattle.std.proofs.Common.{◌∙◌}
use Rattle.rules_in_effect.proofs.Distinct.{first_by_id}
use Rattle.rules_in_effect.proofs.rules.RulesInEffect.pop_first.Goals as goal

pub returns-clause-entry : goal.returns-clause-entry
returns-clause-entry c = c.remove.ensures.entry ∙ (first_by_id c.args.self.now.list c.in-Some.id c.first_id.ensures.distinct c.in-Some.ensures.value).0

pub returns-clause-others : goal.returns-clause-others
returns-clause-others c = c.remove.ensures.others ∙ (first_by_id c.args.self.now.list c.in-Some.id c.first_id.ensures.distinct c.in-Some.ensures.value).1
