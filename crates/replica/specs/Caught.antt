-- What contracts see of a replica, and where it stands behind changes.
use Rattle.std.specs.Prelude.{◌≡◌, ℕ, ◌+◌, false, List, [], length, fold}
use Rattle.flow_rules.specs.declared.limits.Limits.{Limits}
use Rattle.flow_rules.specs.declared.change.Change.{Change}
use Rattle.flow_rules.specs.Changes.{changed}
use Rattle.flow_rules.specs.Walk.{Flows}

-- the port's limits, the number of changes that were applied, and what packets see behind them
pub record ReplicaView : Type 0 where
  pub limits : Limits
  pub version : ℕ
  pub flows : Flows

-- what packets see before any change
abbrev pub opening : Limits → Flows
opening limits = record { rules = []; shared = []; isolated = false; rxq = limits.rxq }

-- the replica behind these changes
abbrev pub caught_up : ReplicaView → List Change → ReplicaView
caught_up replica list = record replica { version = replica.version + length list; flows = fold changed replica.flows list }

-- from flows and a number of changes these changes led to others
pub record Follows (before : Flows) (count : ℕ) (list : List Change) (after : Flows) (counted : ℕ) : Type 0 where
  pub flows_are : after ≡ fold changed before list
  pub counted_are : counted ≡ count + length list
