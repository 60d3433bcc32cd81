use Rattle.capture_files.proofs.ReadBack.{capture-written}
use Rattle.capture_files.proofs.writing.written_captures_are_read.Goals as goal

pub returns : goal.returns
returns c = capture-written
