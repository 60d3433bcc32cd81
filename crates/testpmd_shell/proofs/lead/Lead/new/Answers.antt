use Rattle.std.proofs.Common.{[], sym, subst}
use Rattle.adapter.specs.Seen.{Seen}
use Rattle.replica.specs.Caught.{ReplicaView}
use Rattle.flow_port.specs.Standing.{Stands}
use Rattle.flow_port.proofs.Standing.{Stands-start}
use Rattle.testpmd_shell.proofs.lead.Lead.new.Goals as goal

pub returns-clause-stands : goal.returns-clause-stands
returns-clause-stands c =
    subst (λ (a : Seen). Stands a.limits a.history c.in_ok-replica.replica) (sym c.in_ok-adapter.ensures)
    (subst (λ (r : ReplicaView). Stands c.args.limits [] r) (sym c.in_ok-replica.ensures) (Stands-start c.args.limits))
