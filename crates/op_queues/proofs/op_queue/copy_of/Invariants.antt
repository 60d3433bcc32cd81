use Rattle.std.proofs.Common.{◌≡◌, take}
use Rattle.op_queues.proofs.op_queue.copy_of.Given as goal

abbrev pub invariant-loop-place : goal.invariant-loop-place
invariant-loop-place l = l.outcomes ≡ take l.place l.fn.results.items
