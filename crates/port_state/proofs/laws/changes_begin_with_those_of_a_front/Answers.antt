use Rattle.port_state.proofs.ChangesTold.{changes_of-append}
use Rattle.port_state.proofs.laws.changes_begin_with_those_of_a_front.Goals as goal

pub returns : goal.returns
returns c = changes_of-append
