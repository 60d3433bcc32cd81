-- The state behind a history, and what each call does to it.
use Rattle.std.specs.Prelude.{ℕ, nat_eq, nat_lt, ◌+◌, ◌-◌, ◌^◌, Bool, true, false, not, ◌&&◌, ◌||◌, List, [], ◌∷◌, ◌++◌, map, filter, flat_map, count_by, drop, length, replicate, slice_index_or, slice_set, nat_le, if◌then◌else◌, Option, None, Some, fold}
use Rattle.std.specs.List.{list_any, filter_map}
use Rattle.std.specs.Option.{is_none, option_map}
use Rattle.flow_rules.specs.declared.limits.Limits.{Limits}
use Rattle.flow_rules.specs.declared.spec.RuleSpec.{RuleSpec}
use Rattle.flow_rules.specs.declared.fault.Fault.{Fault}
use Rattle.flow_rules.specs.declared.fault.Cause.{Cause}
use Rattle.flow_rules.specs.declared.fault.Cause.TheVariants as causes
use Rattle.flow_actions.specs.declared.action.Action.{Action}
use Rattle.flow_actions.specs.Kinds.{kind_of}
use Rattle.flow_rules.specs.Faults.{Kinds, fault_if, first, first_fault, rule_of, is_shared}
use Rattle.flow_rules.specs.Shared.{Shared, shared_at, with_shared, without_shared}
use Rattle.flow_rules.specs.RuleView.{RuleView}
use Rattle.flow_rules.specs.Walk.{Flows}
use Rattle.flow_rules.specs.Changes.{has_id}
use Rattle.flow_calls.specs.declared.call.Op.{Op}
use Rattle.flow_calls.specs.declared.call.Op.TheVariants as ops
use Rattle.flow_calls.specs.declared.entry.Entry.{Entry}
use Rattle.flow_calls.specs.declared.entry.Entry.TheVariants.{Asked, Passed}
use Rattle.flow_calls.specs.declared.call.RuleLists.{RuleLists}
use Rattle.indirect_counters.specs.Counts.{no_count}
use Rattle.indirect_counters.specs.declared.shared_action.SharedAction.{SharedAction}
use Rattle.indirect_counters.specs.Entries.{Entries}
use Rattle.object_ids.specs.Ids.{id_for}
use Rattle.indirect_counters.specs.Refusals as shared_calls
use Rattle.template_tables.specs.TableView.{TableView}
use Rattle.template_tables.specs.TemplatesView.{TemplatesView, table_of}
use Rattle.template_tables.specs.Bound.{bind_refusals, bound_in}
use Rattle.template_tables.specs.Slots.{slot_refusals}
use Rattle.template_tables.specs.Refusals.{pattern_refusals, actions_refusals, table_refusals, pattern_end_refusals, actions_end_refusals, table_end_refusals}
use Rattle.port_state.specs.declared.held.Held.{Held}
use Rattle.port_state.specs.declared.held.Held.TheVariants as held
use Rattle.port_state.specs.Queue.{FlowQueue, empty_queue, in_flight}
use Rattle.port_state.specs.Tables.{Table, Templates, no_templates, pattern_made, actions_made, table_made, pattern_gone, actions_gone, table_gone}

-- a rule in effect, with its table, if it stands in one
pub record Placed : Type 0 where
  pub rule : RuleView
  pub table : Option ℕ

-- the rules in effect, in the order in which they took effect; the actions in effect that they share; templates and tables; the flow
-- queues, none before they are configured, and for how many operations in flight each is; whether a miss drops; how many rule ids were
-- given; and how many Rx queues the port has
pub record State : Type 0 where
  pub rules : List Placed
  pub shared : Shared
  pub templates : Templates
  pub queues : List FlowQueue
  pub queue_size : ℕ
  pub isolated : Bool
  pub ids : ℕ
  pub rxq : ℕ

abbrev pub opening : Limits → State
opening limits = record { rules = []; shared = []; templates = no_templates; queues = []; queue_size = 0; isolated = false; ids = 0; rxq = limits.rxq }

-- what packets see of a state
abbrev pub rule_in : Placed → RuleView
rule_in r = r.rule

abbrev pub flows_of : State → Flows
flows_of s = record { rules = map rule_in s.rules; shared = s.shared; isolated = s.isolated; rxq = s.rxq }

-- a rule that stands in no table: `flow create` made it, and `flow destroy` takes it away
abbrev pub is_plain : Placed → Bool
is_plain r = is_none r.table

abbrev pub is_plain_of : ℕ → Placed → Bool
is_plain_of id r = has_id id r.rule && is_plain r

abbrev pub is_in_effect : ℕ → State → Bool
is_in_effect id s = list_any (is_plain_of id) s.rules

-- what is known of the actions that rules share
abbrev pub kinds_in : State → Kinds
kinds_in s id = option_map kind_of (shared_at id s.shared)

-- a fault that names no place
abbrev pub plain : Cause → Fault
plain cause = record { cause = cause; at = 0 }

-- as many rule ids were given as there are
abbrev pub ids_fault : State → Option Fault
ids_fault s = if nat_le (2 ^ 32 - 1) s.ids then Some (plain causes.TooMany) else None

-- as many rules without a table are in effect as may be, or as many ids were given as there are
abbrev pub room_fault : Limits → State → Option Fault
room_fault limits s = if nat_le limits.flow_max (count_by is_plain s.rules) then Some (plain causes.StoreFull) else ids_fault s

abbrev pub first_of : Option Fault → Option Fault → Option Fault
first_of None second = second
first_of (Some fault) second = Some fault

-- a call that has a fault leaves the state
abbrev pub unless_refused : Option Fault → State → State → State
unless_refused None done s = done
unless_refused (Some fault) done s = s

-- the first fault of a creation
abbrev pub create_fault : Limits → State → RuleSpec → Option Fault
create_fault limits s spec = first_of (first_fault limits (kinds_in s) spec) (room_fault limits s)

-- a rule takes effect, behind all others
abbrev pub took_effect : Placed → State → State
took_effect rule s = record s { rules = s.rules ++ rule ∷ [] }

-- one more id is given
abbrev pub id_taken : State → State
id_taken s = record s { ids = s.ids + 1 }

-- what each call does where it is accepted
abbrev pub created : RuleView → State → State
created rule s = id_taken (took_effect (record { rule = rule; table = None }) s)

abbrev pub destroyed : ℕ → State → State
destroyed id s = record s { rules = filter (λ r. not (has_id id r.rule)) s.rules }

abbrev pub flushed : State → State
flushed s = record s { rules = [] }

abbrev pub isolated : Bool → State → State
isolated on s = record s { isolated = on }

-- a shared action has this value from here on
abbrev pub shared_set : ℕ → Action → State → State
shared_set id value s = record s { shared = with_shared id value s.shared }

abbrev pub shared_gone : ℕ → State → State
shared_gone id s = record s { shared = without_shared id s.shared }

-- the flow queue of a number
abbrev pub queue_at : ℕ → State → FlowQueue
queue_at q s = slice_index_or s.queues q empty_queue

-- the operations that all queues hold
abbrev pub all_held : State → List Held
all_held s = flat_map (λ (queue : FlowQueue). queue.held) s.queues

-- a rule uses a shared action, in effect or as its creation is held
abbrev pub is_user : ℕ → Placed → Bool
is_user id r = list_any (is_shared id) r.rule.actions

abbrev pub is_held_user : ℕ → Held → Bool
is_held_user id (held.RuleCreated rule table) = list_any (is_shared id) rule.actions
is_held_user id _ = false

abbrev pub users_of : State → ℕ → ℕ
users_of s id = count_by (is_user id) s.rules + count_by (is_held_user id) (all_held s)

-- a shared action whose creation is held
abbrev pub held_object : Held → Option (ℕ × SharedAction)
held_object (held.SharedCreated id value) = Some (id, record { value = value; users = 0; held = true; count = no_count })
held_object _ = None

-- the shared actions as they are judged by: those in effect, each with the number of rules that use it, and those whose creation is held
abbrev pub objects : State → Entries
objects s =
    map (λ (entry : ℕ × Action). (entry.0, record { value = entry.1; users = users_of s entry.0; held = false; count = no_count })) s.shared
    ++ filter_map held_object (all_held s)

-- a rule stands in the table of an id
abbrev pub is_table : ℕ → Option ℕ → Bool
is_table id None = false
is_table id (Some table) = nat_eq id table

abbrev pub stands_in : ℕ → Placed → Bool
stands_in id r = is_table id r.table

abbrev pub slot_of : Placed → ℕ × Option RuleView
slot_of r = (r.rule.id, Some r.rule)

abbrev pub held_slot : ℕ → Held → Option (ℕ × Option RuleView)
held_slot id (held.RuleCreated rule table) = if nat_eq id table then Some (rule.id, None) else None
held_slot id _ = None

-- a table as it is judged by: its taken slots are those of its rules in effect, and of those whose creation is held
abbrev pub table_in : List Placed → List Held → ℕ × Table → ℕ × TableView
table_in rules waiting entry = (
  entry.0,
  record {
    attr = entry.1.attr;
    patterns = entry.1.patterns;
    actions = entry.1.actions;
    rules_number = entry.1.rules_number;
    slots = map slot_of (filter (stands_in entry.0) rules) ++ filter_map (held_slot entry.0) waiting;
    greatest = None;
  },
)

-- templates and tables as they are judged by
abbrev pub templates_in : State → TemplatesView
templates_in s = record { patterns = s.templates.patterns; actions = s.templates.actions; tables = map (table_in s.rules (all_held s)) s.templates.tables }

-- with other templates and tables
abbrev pub with_templates : (Templates → Templates) → State → State
with_templates change s = record s { templates = change s.templates }

-- what an operation does where it succeeds
abbrev pub taken : State → Held → State
taken s (held.RuleCreated rule table) = took_effect (record { rule = rule; table = Some table }) s
taken s (held.RuleDestroyed id) = destroyed id s
taken s (held.SharedCreated id value) = shared_set id value s
taken s (held.SharedUpdated id value) = shared_set id value s
taken s (held.SharedDestroyed id) = shared_gone id s

-- a rule of a table
abbrev pub is_table_rule_of : ℕ → Placed → Bool
is_table_rule_of id r = has_id id r.rule && not (is_plain r)

-- the action in effect has the kind of a value
abbrev pub has_kind_of : Action → Option Action → Bool
has_kind_of value None = false
has_kind_of value (Some old) = shared_calls.is_same_kind (kind_of old) (kind_of value)

-- a creation always succeeds; what is destroyed must be there, and unused; what is updated must be there, of the same kind
abbrev pub succeeds : State → Held → Bool
succeeds s (held.RuleCreated rule table) = true
succeeds s (held.RuleDestroyed id) = list_any (is_table_rule_of id) s.rules
succeeds s (held.SharedCreated id value) = true
succeeds s (held.SharedUpdated id value) = has_kind_of value (shared_at id s.shared)
succeeds s (held.SharedDestroyed id) = is_none (shared_calls.destroy_fault (objects s) id)

-- with another queue in the place of one
abbrev pub with_queue : ℕ → FlowQueue → State → State
with_queue q queue s = record s { queues = slice_set s.queues q queue }

-- the oldest operation of a queue takes effect, or fails and changes nothing, and leaves its result
abbrev pub stepped : ℕ → State → Held → State
stepped q s op =
    with_queue q (record { held = drop 1 (queue_at q s).held; results = (queue_at q s).results ++ succeeds s op ∷ [] })
    (if succeeds s op then taken s op else s)

-- all operations that a queue holds take effect, in order
abbrev pub pushed : ℕ → State → State
pushed q s = fold (stepped q) s (queue_at q s).held

-- the results that wait are removed
abbrev pub pulled : ℕ → State → State
pulled q s = with_queue q (record { held = (queue_at q s).held; results = [] }) s

-- a rule whose creation is held has its id
abbrev pub admitted : Held → State → State
admitted (held.RuleCreated rule table) s = id_taken s
admitted _ s = s

-- an operation is held, behind the others
abbrev pub waiting : ℕ → Held → State → State
waiting q op s = with_queue q (record { held = (queue_at q s).held ++ op ∷ []; results = (queue_at q s).results }) (admitted op s)

-- without 'postpone' all that the queue holds takes effect
abbrev pub enqueued : ℕ → Bool → Held → State → State
enqueued q true op s = waiting q op s
enqueued q false op s = pushed q (waiting q op s)

-- so many queues, all empty
abbrev pub configured : ℕ → ℕ → State → State
configured queues size s = record s { queues = replicate queues empty_queue; queue_size = size }

-- queues are configured once: 1 to 8 of them, each for 1 to 1,024 operations
abbrev pub configure_refusals : State → ℕ → ℕ → List Fault
configure_refusals s queues size =
    fault_if (nat_lt 0 (length s.queues)) causes.AlreadyConfigured 0
    ++ fault_if (nat_eq queues 0 || nat_lt 8 queues || nat_eq size 0 || nat_lt 1024 size) causes.QueueRange 0

-- there is no flow queue of this number
abbrev pub queue_fault : State → ℕ → Option Fault
queue_fault s q = first (fault_if (nat_le (length s.queues) q) causes.NoQueue 0)

-- and where there is one, as many operations are in flight as may be
abbrev pub full_fault : State → ℕ → Option Fault
full_fault s q = first_of (queue_fault s q) (first (fault_if (nat_eq (in_flight (queue_at q s)) s.queue_size) causes.QueueFull 0))

-- the first fault of a rule that is bound to the templates of a table
abbrev pub bound_fault : Limits → State → ℕ → Option RuleSpec → Option Fault
bound_fault limits s table None = None
bound_fault limits s table (Some spec) =
    first_of (first_fault limits (kinds_in s) spec) (first_of (first (slot_refusals (table_of table (templates_in s)))) (ids_fault s))

-- the rule that these lists make with the templates at two places of a table
abbrev pub bound : State → ℕ → ℕ → ℕ → RuleLists → Option RuleSpec
bound s table pt act lists = bound_in (templates_in s) table pt act lists.pattern lists.actions

abbrev pub table_rule_fault : Limits → State → ℕ → ℕ → ℕ → RuleLists → Option Fault
table_rule_fault limits s table pt act lists =
    first_of (first (bind_refusals (templates_in s) table pt act lists.pattern lists.actions)) (bound_fault limits s table (bound s table pt act lists))

-- where a rule is bound, this, else that
abbrev pub if_bound : {A : Type 0} → Option RuleSpec → (RuleSpec → A) → A → A
if_bound None made other = other
if_bound (Some spec) made other = made spec

abbrev pub creation_held : State → ℕ → RuleSpec → Held
creation_held s table spec = held.RuleCreated (rule_of s.ids spec) table

-- the state behind a call
abbrev pub next_state : Limits → State → Op → State
next_state limits s (ops.Validate spec) = s
next_state limits s (ops.Create spec) = unless_refused (create_fault limits s spec) (created (rule_of s.ids spec) s) s
next_state limits s (ops.Destroy id) = if is_in_effect id s then destroyed id s else s
next_state limits s ops.Flush = flushed s
next_state limits s (ops.Query id) = s
next_state limits s ops.List = s
next_state limits s (ops.Isolate on) = isolated on s
next_state limits s (ops.IndirectCreate id attr action) =
    unless_refused (shared_calls.create_fault s.rxq (objects s) id attr action) (shared_set (id_for id (objects s)) action s) s
next_state limits s (ops.IndirectUpdate id action) = unless_refused (shared_calls.update_fault s.rxq (objects s) id action) (shared_set id action s) s
next_state limits s (ops.IndirectDestroy id) = unless_refused (shared_calls.destroy_fault (objects s) id) (shared_gone id s) s
next_state limits s (ops.IndirectQuery id) = s
next_state limits s (ops.PatternTemplateCreate id attr pattern) =
    unless_refused (first (pattern_refusals (templates_in s) id attr pattern)) (with_templates (pattern_made id pattern) s) s
next_state limits s (ops.PatternTemplateDestroy id) = unless_refused (first (pattern_end_refusals (templates_in s) id)) (with_templates (pattern_gone id) s) s
next_state limits s (ops.ActionsTemplateCreate id attr lists) =
    unless_refused (first (actions_refusals (templates_in s) id attr lists.actions lists.masks)) (with_templates (actions_made id lists.actions lists.masks) s) s
next_state limits s (ops.ActionsTemplateDestroy id) = unless_refused (first (actions_end_refusals (templates_in s) id)) (with_templates (actions_gone id) s) s
next_state limits s (ops.TableCreate id attr rules_number templates) =
    unless_refused (first (table_refusals (templates_in s) id attr rules_number templates.patterns.items templates.actions.items))
    (with_templates (table_made id (record { attr = attr; patterns = templates.patterns.items; actions = templates.actions.items; rules_number = rules_number })) s) s
next_state limits s (ops.TableDestroy id) = unless_refused (first (table_end_refusals (templates_in s) id)) (with_templates (table_gone id) s) s
next_state limits s (ops.Configure queues size) = unless_refused (first (configure_refusals s queues size)) (configured queues size s) s
next_state limits s (ops.QueueCreate q postpone table pt act lists) =
    unless_refused (first_of (full_fault s q) (table_rule_fault limits s table pt act lists))
    (if_bound (bound s table pt act lists) (λ spec. enqueued q postpone (creation_held s table spec) s) s) s
next_state limits s (ops.QueueDestroy q postpone rule) = unless_refused (full_fault s q) (enqueued q postpone (held.RuleDestroyed rule) s) s
next_state limits s (ops.QueueIndirectCreate q postpone id attr action) =
    unless_refused (first_of (full_fault s q) (shared_calls.create_fault s.rxq (objects s) id attr action))
    (enqueued q postpone (held.SharedCreated (id_for id (objects s)) action) s) s
next_state limits s (ops.QueueIndirectUpdate q postpone id action) =
    unless_refused (first_of (full_fault s q) (shared_calls.queued_update_fault s.rxq action)) (enqueued q postpone (held.SharedUpdated id action) s) s
next_state limits s (ops.QueueIndirectDestroy q postpone id) = unless_refused (full_fault s q) (enqueued q postpone (held.SharedDestroyed id) s) s
next_state limits s (ops.Push q) = unless_refused (queue_fault s q) (pushed q s) s
next_state limits s (ops.Pull q) = unless_refused (queue_fault s q) (pulled q s) s
next_state limits s (ops.Start _) = s
next_state limits s ops.Stop = s
next_state limits s ops.Quit = s
next_state limits s (ops.Bad _) = s

-- the state behind an entry
abbrev pub state_behind : Limits → State → Entry → State
state_behind limits s (Asked caller call reply) = next_state limits s call.op
state_behind limits s (Passed caller parcel verdict) = s

-- the state behind a history
unfoldable pub state_of : Limits → List Entry → State
state_of limits history = fold (state_behind limits) (opening limits) history
