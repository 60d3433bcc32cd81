use Rattle.flow_rules.proofs.Namings.{named-by_path}
use Rattle.flow_rules.proofs.laws.counters_are_named_by_the_path.Goals as goal

pub returns : goal.returns
returns c = named-by_path
