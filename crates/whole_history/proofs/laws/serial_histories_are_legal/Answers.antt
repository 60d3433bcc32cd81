use Rattle.whole_history.proofs.LegalSerial.{IsLegal-serial}
use Rattle.whole_history.proofs.laws.serial_histories_are_legal.Goals as goal

pub returns : goal.returns
returns c = IsLegal-serial
