use Rattle.history_text.proofs.TranscriptLaws.{transcript-same}
use Rattle.history_text.proofs.read_back.transcripts_are_told_apart.Goals as goal

pub returns : goal.returns
returns c = transcript-same
