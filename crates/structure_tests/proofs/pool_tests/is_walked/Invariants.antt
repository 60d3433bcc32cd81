use Rattle.std.proofs.Common.{Contains, IfSome}
use Rattle.slot_pool.specs.Links.{members}
use Rattle.structure_tests.proofs.pool_tests.is_walked.Given as goal

abbrev pub invariant-loop-want : goal.invariant-loop-want
invariant-loop-want l = IfSome l.at (Contains (members l.pool.links l.chain))
