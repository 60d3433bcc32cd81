use Rattle.std.proofs.Common.{◌≡◌, take, drop}
use Rattle.circular_buffer.specs.Buffer.{buffer}
use Rattle.op_queues.proofs.op_queue.take_first.Given as goal

abbrev pub invariant-results : goal.invariant-results
invariant-results l =
    (l.outcomes ≡ take l.counter l.initial.results.items) × (l.results ≡ buffer (drop l.counter l.initial.results.items) l.initial.results.capacity)
