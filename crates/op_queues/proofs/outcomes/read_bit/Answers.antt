use Rattle.op_queues.proofs.Bits.{outcome_at-shr}
use Rattle.op_queues.proofs.outcomes.read_bit.Goals as goal

pub returns : goal.returns
returns c = outcome_at-shr c.args.words.now c.args.i
