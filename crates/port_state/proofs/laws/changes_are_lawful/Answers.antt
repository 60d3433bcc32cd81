use Rattle.port_state.proofs.ChangesTold.{lawful-from}
use Rattle.port_state.proofs.laws.changes_are_lawful.Goals as goal

pub returns : goal.returns
returns c = lawful-from
