use Rattle.rule_words.proofs.WrittenIds.{ids-read}
use Rattle.rule_words.proofs.written.written_ids_are_read.Goals as goal

pub returns : goal.returns
returns c = λ name bits most values ids rest is some few other. ids-read name bits most values ids rest is some few other
