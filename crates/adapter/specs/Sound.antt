-- What an adapter keeps true of its fields.
use Rattle.std.specs.Prelude.{◌≡◌, ◌^◌, ◌*◌, ◌≤◌, List, length}
use Rattle.flow_rules.specs.declared.limits.Limits.{Limits}
use Rattle.flow_rules.specs.Limits.{AreLimits}
use Rattle.adapter.specs.declared.adapter.Adapter.TheInside.{Inside}
use Rattle.flow_calls.specs.declared.entry.Entry.{Entry}
use Rattle.port_state.specs.Changes.{AreTold}
use Rattle.adapter.specs.Seen.{Seen}
use Rattle.flow_rules.specs.declared.counter.Counter.{Counter}
use Rattle.port_state.specs.State.{state_of}
use Rattle.flow_calls.specs.Totals.{totals_of}
use Rattle.port_state.specs.Counters.{count_of}
use Rattle.port_state.specs.Kept.{AreKept}
use Rattle.port_state.specs.Standing.{Standing, standing_kept}
use Rattle.adapter.specs.History.{IsLegal}

-- The limits are in their ranges. The history is legal, and short enough to be counted, and the standing is that behind it. A frame
-- names at most 256 counters, and has fewer than 2^32 bytes.
pub record Sound (limits : Limits) (at : Standing) (history : List Entry) : Type 0 where
  pub ranges : AreLimits limits
  pub state : at.state ≡ state_of limits history
  pub totals : at.totals ≡ totals_of history
  pub counts : (c : Counter) → at.count c ≡ count_of limits history c
  pub few : (c : Counter) → ((at.count c).hits ≤ 256 * length history) × ((at.count c).bytes ≤ 2 ^ 32 * (at.count c).hits)
  pub legal : IsLegal limits history
  pub short : length history ≤ 2 ^ 32

abbrev pub view_of : Inside → Seen
view_of a = record { limits = a.limits; history = a.history.entries; spare = a.history.spare }

-- and the code keeps what flow queues hold
abbrev pub IsSound : Inside → Type 0
IsSound a = Sound a.limits (standing_kept a.standing) a.history.entries × AreTold a.limits a.history.entries a.changes.list × AreKept a.standing.state
