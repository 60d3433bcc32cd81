-- What a call's reply and a frame's verdict depend on.
use Rattle.std.specs.Prelude.{◌≡◌, ℕ, ◌≤◌, ◌<◌, ◌^◌, List, map, flat_map, length, count_by}
use Rattle.flow_actions.specs.declared.verdict.Fate.{Fate}
use Rattle.flow_rules.specs.Naming.{namings_at, HaveOwnIds}
use Rattle.flow_rules.specs.declared.limits.Limits.{Limits}
use Rattle.flow_rules.specs.declared.counter.Counter.{Counter}
use Rattle.flow_rules.specs.declared.counter.Count.{Count}
use Rattle.flow_calls.specs.declared.entry.Entry.{Entry}
use Rattle.flow_calls.specs.declared.reply.Totals.{Totals}
use Rattle.port_state.specs.declared.standing.Standing.{Standing as Kept}
use Rattle.port_state.specs.State.{State, state_of, flows_of, rule_in}
use Rattle.flow_calls.specs.Totals.{totals_of}
use Rattle.port_state.specs.Counted.{counted}
use Rattle.port_state.specs.Counters.{count_of, counted_more, is_counter}
use Rattle.port_state.specs.KeptState.{state_in, count_in}

-- the state, the totals, and what each counter stands at
pub record Standing : Type 0 where
  pub state : State
  pub totals : Totals
  pub count : Counter → Count

-- the standing behind a history
abbrev pub standing_of : Limits → List Entry → Standing
standing_of limits history = record { state = state_of limits history; totals = totals_of history; count = count_of limits history }

-- the standing that the code keeps
abbrev pub standing_kept : Kept → Standing
standing_kept s = record { state = state_in s.state; totals = s.totals; count = count_in s.state }

-- a frame of so many bytes was counted, with the rules on its way and its fate
pub record Counts (old new : Standing) (path : List ℕ) (fate : Fate) (bytes : ℕ) : Type 0 where
  pub state : new.state ≡ old.state
  pub totals : new.totals ≡ counted old.totals fate
  pub count : (c : Counter) → new.count c ≡ counted_more (old.count c) (count_by (is_counter c) (flat_map (namings_at (flows_of old.state)) path)) bytes
  pub few : length (flat_map (namings_at (flows_of old.state)) path) ≤ 256
  pub own : HaveOwnIds (map rule_in old.state.rules)
  pub short : bytes < 2 ^ 32
