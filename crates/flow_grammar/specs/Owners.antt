-- Who makes a call in a phase: the agent of the flow queue that it names, or the shell.
use Rattle.std.specs.Prelude.{ℕ, ◌+◌, ◌==◌, nat_lt, List, filter, map, Option, None, Some, if◌then◌else◌}
use Rattle.std.specs.List.{range_with_len}
use Rattle.flow_calls.specs.declared.call.Call.{Call}
use Rattle.flow_calls.specs.declared.call.Op.{Op}
use Rattle.flow_calls.specs.declared.call.Op.TheVariants as ops

-- the flow queue that a call names
abbrev pub queue_of : Op → Option ℕ
queue_of (ops.QueueCreate queue postpone table pt act lists) = Some queue
queue_of (ops.QueueDestroy queue postpone rule) = Some queue
queue_of (ops.QueueIndirectCreate queue postpone id attr action) = Some queue
queue_of (ops.QueueIndirectUpdate queue postpone id action) = Some queue
queue_of (ops.QueueIndirectDestroy queue postpone id) = Some queue
queue_of (ops.Push queue) = Some queue
queue_of (ops.Pull queue) = Some queue
queue_of op = None

-- flow queues 0 to 7 have agents
abbrev pub owner_by : Option ℕ → ℕ
owner_by None = 0
owner_by (Some queue) = if nat_lt queue 8 then 1 + queue else 0

-- the caller that a call belongs to: the shell is 0, the agent of flow queue q is 1 + q
unfoldable pub owner_of : Op → ℕ
owner_of op = owner_by (queue_of op)

-- the calls of a phase that belong to a caller, in order
abbrev pub owned_by : ℕ → List Call → List Call
owned_by who calls = filter (λ (call : Call). owner_of call.op == who) calls

-- those of the eight agents
unfoldable pub agent_calls : List Call → List (List Call)
agent_calls calls = map (λ queue. owned_by (1 + queue) calls) (range_with_len 0 8)
