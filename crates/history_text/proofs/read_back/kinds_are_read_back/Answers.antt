use Rattle.history_text.proofs.KindLaws.{kind-back}
use Rattle.history_text.proofs.read_back.kinds_are_read_back.Goals as goal

pub returns : goal.returns
returns c = kind-back
