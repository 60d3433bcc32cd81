-- How the code keeps what packets see, and a replica.
use Rattle.flow_rules.specs.Naming.{HaveOwnIds}
use Rattle.flow_rules.specs.Shared.{AreSharedOn}
use Rattle.flow_rules.specs.Walk.{Flows}
use Rattle.replica.specs.declared.current_flows.CurrentFlows.TheInside.{Inside as FlowsInside}
use Rattle.replica.specs.declared.replica.Replica.TheInside.{Inside as ReplicaInside}
use Rattle.replica.specs.Caught.{ReplicaView}

abbrev pub flows_kept : FlowsInside → Flows
flows_kept f = record { rules = f.rules; shared = f.shared; isolated = f.isolated; rxq = f.rxq }

-- no two rules have one id, and shared actions are the port's
abbrev pub AreKept : Flows → Type 0
AreKept flows = HaveOwnIds flows.rules × AreSharedOn flows.rxq flows.shared

abbrev pub replica_kept : ReplicaInside → ReplicaView
replica_kept r = record { limits = r.limits; version = r.version; flows = r.flows }
