use Rattle.port_state.proofs.FlowsBehind.{are_its_changes}
use Rattle.port_state.proofs.laws.changes_are_what_packets_see.Goals as goal

pub returns : goal.returns
returns c = are_its_changes
