use Rattle.history_text.proofs.TransmitLaws.{transmit_of-append}
use Rattle.history_text.proofs.sending.transmit_files_grow.Goals as goal

pub returns : goal.returns
returns c = transmit_of-append
