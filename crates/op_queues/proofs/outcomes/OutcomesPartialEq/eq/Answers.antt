use Rattle.std.proofs.Common.{arith}
use Rattle.op_queues.proofs.Comparison.{different_at, same}
use Rattle.op_queues.proofs.outcomes.OutcomesPartialEq.eq.Goals as goal

pub returns-then-get : goal.returns-then-get
returns-then-get c =
    different_at c.args.self.now c.args.other.now c.loop-i.i c.get.result c.get-in-loop-i.result c.get.ensures c.get-in-loop-i.ensures c.if-get.true

pub returns : goal.returns
returns c =
    same c.args.self.now c.args.other.now
    (omega (arith, c.len.ensures.len, c.len-2.ensures.len, c.if-len.false))
    (λ k below. c.loop-i.invariant k (omega (arith, c.len-i-end.ensures.len, c.loop-i-test.false, below)))
