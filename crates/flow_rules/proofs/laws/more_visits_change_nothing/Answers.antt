use Rattle.std.proofs.Common.{refl, arith}
use Rattle.flow_rules.specs.Walk.{start, walk}
use Rattle.flow_rules.proofs.Visits.{same_from_start}
use Rattle.flow_rules.proofs.laws.more_visits_change_nothing.Goals as goal

pub returns : goal.returns
unfolding walk
returns c = λ flows layers n valid shared most. same_from_start n 16 flows (start layers) valid shared refl most (omega arith)
