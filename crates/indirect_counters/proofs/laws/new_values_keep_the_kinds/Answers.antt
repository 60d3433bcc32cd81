use Rattle.indirect_counters.proofs.Effects.{kinds-updated}
use Rattle.indirect_counters.proofs.laws.new_values_keep_the_kinds.Goals as goal

pub returns : goal.returns
returns c = λ rxq id q entries value none. kinds-updated rxq entries id value none q
