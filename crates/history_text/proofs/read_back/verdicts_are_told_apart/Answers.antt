use Rattle.history_text.proofs.VerdictLaws.{verdict-text-same}
use Rattle.history_text.proofs.read_back.verdicts_are_told_apart.Goals as goal

pub returns : goal.returns
returns c = verdict-text-same
