use Rattle.flow_rules.proofs.Keeping.{may-behind}
use Rattle.flow_rules.proofs.laws.changes_keep_what_may_be_in_effect.Goals as goal

pub returns : goal.returns
returns c = may-behind
