-- What contracts see of a state that the code keeps.
use Rattle.std.specs.Prelude.{ℕ, Bool, List, map, Option, None, Some}
use Rattle.flow_rules.specs.declared.counter.Counter.{Counter}
use Rattle.flow_rules.specs.declared.counter.Counter.TheVariants as counters
use Rattle.flow_rules.specs.declared.counter.Count.{Count}
use Rattle.rules_in_effect.specs.declared.in_effect.InEffect.{InEffect}
use Rattle.rules_in_effect.specs.Entries as rules
use Rattle.indirect_counters.specs.declared.shared_action.SharedAction.{SharedAction}
use Rattle.indirect_counters.specs.Entries as shared
use Rattle.template_tables.specs.TableView.{TableView}
use Rattle.template_tables.specs.TemplatesView.{TemplatesView}
use Rattle.port_state.specs.Queue.{FlowQueue}
use Rattle.port_state.specs.Tables.{Table, Templates}
use Rattle.port_state.specs.State.{Placed, State}
use Rattle.port_state.specs.Counters.{zero_count}

-- the rules and shared actions with what they have counted, and how many more of both can take effect without memory
pub record KeptState : Type 0 where
  pub rules : List InEffect
  pub shared : shared.Entries
  pub templates : TemplatesView
  pub queues : List FlowQueue
  pub queue_size : ℕ
  pub isolated : Bool
  pub ids : ℕ
  pub rxq : ℕ
  pub room : ℕ
  pub shared_room : ℕ

abbrev pub placed : InEffect → Placed
placed entry = record { rule = entry.rule; table = entry.table }

-- a table without its slots
abbrev pub plan_of : ℕ × TableView → ℕ × Table
plan_of entry = (entry.0, record { attr = entry.1.attr; patterns = entry.1.patterns; actions = entry.1.actions; rules_number = entry.1.rules_number })

abbrev pub plans_of : TemplatesView → Templates
plans_of t = record { patterns = t.patterns; actions = t.actions; tables = map plan_of t.tables }

-- the state
abbrev pub state_in : KeptState → State
state_in s = record {
  rules = map placed s.rules;
  shared = shared.values_in_effect s.shared;
  templates = plans_of s.templates;
  queues = s.queues;
  queue_size = s.queue_size;
  isolated = s.isolated;
  ids = s.ids;
  rxq = s.rxq;
}

-- what is counted of a rule, and of a shared action
abbrev pub count_of_rule : Option InEffect → Count
count_of_rule None = zero_count
count_of_rule (Some entry) = entry.count

abbrev pub count_of_shared : Option SharedAction → Count
count_of_shared None = zero_count
count_of_shared (Some entry) = entry.count

abbrev pub count_kept : List InEffect → shared.Entries → Counter → Count
count_kept list entries (counters.Rule id) = count_of_rule (rules.entry_at id list)
count_kept list entries (counters.Shared id) = count_of_shared (shared.in_effect_at id entries)

-- what a counter stands at
abbrev pub count_in : KeptState → Counter → Count
count_in s = count_kept s.rules s.shared
