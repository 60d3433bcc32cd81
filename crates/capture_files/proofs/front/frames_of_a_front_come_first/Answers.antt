use Rattle.capture_files.proofs.Fronts.{capture-first}
use Rattle.capture_files.proofs.front.frames_of_a_front_come_first.Goals as goal

pub returns : goal.returns
returns c = capture-first
