use Rattle.std.proofs.Common.{◌≡◌, replicate}
use Rattle.op_queues.specs.OpQueue.{empty_queue}
use Rattle.port_state.proofs.queues.empty_queues.Given as goal

abbrev pub invariant-loop : goal.invariant-loop
invariant-loop l = l.queues.items ≡ replicate l.counter (empty_queue l.size)
