use Rattle.std.proofs.Common.{◌≡◌, All, [], length}
use Rattle.flow_port.specs.Standing.{Stands}
use Rattle.testpmd_shell.proofs.threads.new_replicas.Given as goal

abbrev pub invariant-loop : goal.invariant-loop
invariant-loop l = record {
  stand : All (λ r. Stands l.limits [] r) l.replicas.items;
  count : length l.replicas.items ≡ l.counter;
}
