-- How the code keeps a state.
use Rattle.std.specs.Prelude.{◌≡◌, ℕ, ◌+◌, All, List, map, count_by, length, nat_eq, Option, None, Some}
use Rattle.std.specs.List.{IsDistinct}
use Rattle.std.specs.Map.{keys_of, lookup}
use Rattle.op_queues.specs.OpQueue.{Queue}
use Rattle.indirect_counters.specs.Sound.{AreOn}
use Rattle.flow_rules.specs.RuleView.{RuleView}
use Rattle.template_tables.specs.TableView.{TableView}
use Rattle.template_tables.specs.TemplatesView.{TemplatesView, table_of}
use Rattle.port_state.specs.declared.held.Held.{Held}
use Rattle.port_state.specs.declared.state.State.TheInside.{Inside}
use Rattle.port_state.specs.Kept.{is_reserved}
use Rattle.port_state.specs.KeptState.{KeptState, placed}
use Rattle.port_state.specs.Queue.{FlowQueue}
use Rattle.port_state.specs.State.{Placed, stands_in}

abbrev pub queue_of : Queue Held → FlowQueue
queue_of q = record { held = q.held; results = q.results }

abbrev pub state_kept : Inside → KeptState
state_kept s = record {
  rules = s.rules.list;
  shared = s.shared.entries;
  templates = s.templates;
  queues = map queue_of s.queues.items;
  queue_size = s.queue_size;
  isolated = s.isolated;
  ids = s.ids;
  rxq = s.rxq;
  room = s.rules.room;
  shared_room = s.shared.room;
}

-- the slot of a rule that stands in a table is settled with it
abbrev pub IsSettledIn : RuleView → Option TableView → Type 0
IsSettledIn rule None = ⊥
IsSettledIn rule (Some table) = lookup (nat_eq rule.id) table.slots ≡ Some (Some rule)

abbrev pub IsSettledAt : TemplatesView → RuleView → Option ℕ → Type 0
IsSettledAt templates rule None = Unit {0}
IsSettledAt templates rule (Some table) = IsSettledIn rule (table_of table templates)

abbrev pub IsSettled : TemplatesView → Placed → Type 0
IsSettled templates r = IsSettledAt templates r.rule r.table

-- as many slots of each table are settled as rules of it are in effect; no rule stands in a table that isn't there
abbrev pub HasSettled : List Placed → ℕ → Option TableView → Type 0
HasSettled rules id None = count_by (stands_in id) rules ≡ 0
HasSettled rules id (Some table) = length table.slots ≡ count_by (stands_in id) rules + count_by is_reserved table.slots

abbrev pub HaveSettled : List Placed → TemplatesView → Type 0
HaveSettled rules templates = (id : ℕ) → HasSettled rules id (table_of id templates)

-- a queue is for so many operations, and owes no result
pub record IsQueue (size : ℕ) (q : Queue Held) : Type 0 where
  pub size_is : q.size ≡ size
  pub none_owed : q.owed ≡ 0

-- The values of the shared actions, held ones too, are those of this port. The settled slots of tables are those of their rules.
pub record IsSound (s : Inside) : Type 0 where
  pub on_port : AreOn s.rxq s.shared.entries
  pub settled : All (IsSettled s.templates) (map placed s.rules.list)
  pub slots : HaveSettled (map placed s.rules.list) s.templates
  pub tables : IsDistinct nat_eq (keys_of s.templates.tables)
  pub queues : All (IsQueue s.queue_size) s.queues.items
