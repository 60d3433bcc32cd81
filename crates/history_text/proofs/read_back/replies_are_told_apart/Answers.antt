use Rattle.history_text.proofs.ReplyLaws.{reply-text-same}
use Rattle.history_text.proofs.read_back.replies_are_told_apart.Goals as goal

pub returns : goal.returns
returns c = reply-text-same
