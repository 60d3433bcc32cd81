use Rattle.std.proofs.Common.{◌≡◌, map, take}
use Rattle.flow_grammar.specs.Destroys.{destroy_of}
use Rattle.flow_grammar.proofs.destroys.destroy_ops.Given as goal

-- an op for each id so far
abbrev pub invariant-loop-id : goal.invariant-loop-id
invariant-loop-id l = l.destroys ≡ map (destroy_of l.object) (take l.id-index l.id-items)
