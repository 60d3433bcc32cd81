use Rattle.std.proofs.Common.{Contains}
use Rattle.slot_pool.specs.Pool.{Lives}
use Rattle.slot_pool.specs.Links.{members}
use Rattle.structure_tests.proofs.pool_tests.member_behind.Given as goal

abbrev pub invariant-loop : goal.invariant-loop
invariant-loop l = Contains (members l.pool.links l.chain) l.at × Lives l.pool l.at
