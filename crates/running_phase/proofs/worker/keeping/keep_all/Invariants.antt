use Rattle.std.proofs.Common.{◌≡◌, ◌++◌, map, flat_map, take}
use Rattle.running_phase.specs.Copies.{record_of}
use Rattle.running_phase.specs.Turns.{goes_out, lent}
use Rattle.running_phase.proofs.worker.keeping.keep_all.Given as goal

abbrev pub invariant-loop-place : goal.invariant-loop-place
invariant-loop-place l = map record_of l.kept.items ≡ map record_of l.fn.kept.items ++ flat_map (goes_out l.replica.flows) (take l.place (lent l.burst))
