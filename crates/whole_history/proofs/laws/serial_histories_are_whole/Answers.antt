use Rattle.whole_history.proofs.WholeSerial.{IsWhole-serial}
use Rattle.whole_history.proofs.laws.serial_histories_are_whole.Goals as goal

pub returns : goal.returns
returns c = IsWhole-serial
