use Rattle.replica.proofs.Steps.{caught_up-parts}
use Rattle.replica.proofs.laws.changes_come_in_parts.Goals as goal

pub returns : goal.returns
returns c = caught_up-parts
