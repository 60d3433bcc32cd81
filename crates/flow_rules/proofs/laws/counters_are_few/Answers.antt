use Rattle.flow_rules.proofs.Namings.{few-counters}
use Rattle.flow_rules.proofs.laws.counters_are_few.Goals as goal

pub returns : goal.returns
returns c = few-counters
