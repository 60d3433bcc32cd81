use Rattle.std.proofs.Common.{◌∙◌, sym, arith}
use Rattle.op_queues.proofs.Bits.{outcome_at-with_bit_same, outcome_at-with_bit_other, outcome_at-without_bit_same, outcome_at-without_bit_other}
use Rattle.op_queues.proofs.outcomes.write_bit.Goals as goal

pub returns-then-ok-clause-written : goal.returns-then-ok-clause-written
returns-then-ok-clause-written c = outcome_at-with_bit_same c.args.words.now c.args.i (omega arith) ∙ sym c.if-ok.true

pub returns-then-ok-clause-others : goal.returns-then-ok-clause-others
returns-then-ok-clause-others c = outcome_at-with_bit_other c.args.words.now c.args.i (omega arith)

pub returns-else-ok-clause-written : goal.returns-else-ok-clause-written
returns-else-ok-clause-written c = outcome_at-without_bit_same c.args.words.now c.args.i (omega arith) ∙ sym c.if-ok.false

pub returns-else-ok-clause-others : goal.returns-else-ok-clause-others
returns-else-ok-clause-others c = outcome_at-without_bit_other c.args.words.now c.args.i (omega arith)
