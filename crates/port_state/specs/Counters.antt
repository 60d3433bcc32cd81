-- What the counters of a history stand at. A counter counts from when its rule, or its shared action, took effect: one that isn't
-- there stands at 0. A frame is counted once for each time that the walk names the counter.
use Rattle.std.specs.Prelude.{ℕ, ◌+◌, ◌*◌, Bool, false, ◌==◌, is_some, List, [], ◌∷◌, fold, count_by, if◌then◌else◌}
use Rattle.flow_rules.specs.declared.counter.Counter.{Counter}
use Rattle.flow_rules.specs.declared.counter.Counter.TheVariants as counters
use Rattle.flow_rules.specs.declared.counter.Count.{Count}
use Rattle.flow_rules.specs.declared.limits.Limits.{Limits}
use Rattle.flow_rules.specs.Naming.{rule_at}
use Rattle.flow_rules.specs.Shared.{shared_at}
use Rattle.flow_rules.specs.Walk.{Flows, counters_of}
use Rattle.flow_calls.specs.declared.entry.Entry.{Entry}
use Rattle.flow_calls.specs.declared.entry.Entry.TheVariants.{Asked, Passed}
use Rattle.flow_rules.specs.declared.change.Change.{Change}
use Rattle.flow_rules.specs.Changes.{changed}
use Rattle.port_state.specs.Changes.{changes_by}
use Rattle.port_state.specs.State.{State, opening, flows_of, state_behind}

abbrev pub zero_count : Count
zero_count = record { hits = 0; bytes = 0 }

-- so many more frames of so many bytes
abbrev pub counted_more : Count → ℕ → ℕ → Count
counted_more n times len = record { hits = n.hits + times; bytes = n.bytes + times * len }

abbrev pub is_counter : Counter → Counter → Bool
is_counter (counters.Rule a) (counters.Rule b) = a == b
is_counter (counters.Rule a) (counters.Shared b) = false
is_counter (counters.Shared a) (counters.Rule b) = false
is_counter (counters.Shared a) (counters.Shared b) = a == b

-- the counter's rule, or its shared action, is in effect
abbrev pub is_there : Counter → Flows → Bool
is_there (counters.Rule id) flows = is_some (rule_at id flows.rules)
is_there (counters.Shared id) flows = is_some (shared_at id flows.shared)

abbrev pub while_there : Bool → Count → Count
while_there there n = if there then n else zero_count

-- the state behind so many entries, and what a counter stands at
pub record Counting : Type 0 where
  pub state : State
  pub count : Count

-- what a counter stands at behind changes: where its rule, or its shared action, is gone, it begins anew
abbrev pub carried : Counter → Flows → List Change → Count → Count
carried c flows [] n = n
carried c flows (change ∷ list) n = carried c (changed flows change) list (while_there (is_there c (changed flows change)) n)

-- what a counter stands at behind one more entry
abbrev pub count_behind : Limits → State → Counter → Count → Entry → Count
count_behind limits s c n (Asked caller call reply) = carried c (flows_of s) (changes_by limits s call.op) n
count_behind limits s c n (Passed caller parcel verdict) = counted_more n (count_by (is_counter c) (counters_of (flows_of s) parcel.key)) parcel.len

abbrev pub counting_behind : Limits → Counter → Counting → Entry → Counting
counting_behind limits c at entry =
    record { state = state_behind limits at.state entry; count = count_behind limits at.state c at.count entry }

-- what a counter stands at behind a history
unfoldable pub count_of : Limits → List Entry → Counter → Count
count_of limits history c = (fold (counting_behind limits c) (record { state = opening limits; count = zero_count }) history).count
