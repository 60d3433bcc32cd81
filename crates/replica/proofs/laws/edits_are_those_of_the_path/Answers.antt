use Rattle.replica.proofs.PathEdits.{edits-by_path}
use Rattle.replica.proofs.laws.edits_are_those_of_the_path.Goals as goal

pub returns : goal.returns
returns c = edits-by_path
