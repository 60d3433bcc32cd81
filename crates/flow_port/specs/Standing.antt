-- Where a replica stands: at a version of what a seat has seen.
use Rattle.std.specs.Prelude.{◌≡◌, ◌≤◌, List, length}
use Rattle.flow_rules.specs.declared.limits.Limits.{Limits}
use Rattle.flow_calls.specs.declared.entry.Entry.{Entry}
use Rattle.port_state.specs.Changes.{changes_of, flows_at}
use Rattle.replica.specs.Caught.{ReplicaView}
use Rattle.turn_book.specs.Views.{BeginsWith}
use Rattle.flow_port.specs.declared.port.FlowPort.{FlowPort}
use Rattle.flow_port.specs.declared.seat.PortSeat.{PortSeat}
use Rattle.flow_port.specs.Ports.{limits_of, seen}

-- It has the limits, and sees what packets saw behind so many changes of the history as it has applied
pub record Stands (limits : Limits) (history : List Entry) (replica : ReplicaView) : Type 0 where
  pub port : replica.limits ≡ limits
  pub behind : replica.version ≤ length (changes_of limits history)
  pub flows : replica.flows ≡ flows_at limits history replica.version

-- It is behind all changes of the history
pub record IsCurrent (limits : Limits) (history : List Entry) (replica : ReplicaView) : Type 0 where
  pub stands : Stands limits history replica
  pub version : replica.version ≡ length (changes_of limits history)

-- It stands in some front of what the seat has seen
abbrev pub StandsAt : FlowPort → PortSeat → ReplicaView → Type 0
StandsAt port s replica = (front : List Entry) × BeginsWith (seen s) front × Stands (limits_of port) front replica
