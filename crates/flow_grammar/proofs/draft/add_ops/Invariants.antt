use Rattle.std.proofs.Common.{◌≡◌, ◌+◌, ◌≤◌, ◌++◌, length}
use Rattle.flow_grammar.specs.Program.{calls_at}
use Rattle.flow_grammar.proofs.draft.add_ops.Given as goal

-- the calls of the ops that are left come behind those so far
abbrev pub invariant-loop-op : goal.invariant-loop-op
invariant-loop-op l =
    (l.part + length l.op-iterator.rest.items ≤ 65)
    × (l.calls ++ calls_at l.line l.part l.op-iterator.rest.items ≡ l.initial.calls ++ calls_at l.line 1 l.fn.ops.items)
