use Rattle.std.proofs.Common.{sym}
use Rattle.op_queues.proofs.Bits.{length-viewed}
use Rattle.op_queues.proofs.outcomes.Outcomes.len.Goals as goal

pub returns-clause-len : goal.returns-clause-len
returns-clause-len c = sym (length-viewed c.self.inside.words c.self.inside.len c.args.self.now c.self.view_is)
