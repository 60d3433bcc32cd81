use Rattle.std.proofs.Common.{◌≡◌, take}
use Rattle.flow_actions.proofs.rss.copy_of.Given as goal

-- the queues so far
abbrev pub invariant-loop-queue : goal.invariant-loop-queue
invariant-loop-queue l = l.copy.items ≡ take l.queue-index l.queues.items
