-- What calls, and whole histories, change for packets.
use Rattle.std.specs.Prelude.{◌≡◌, ℕ, ◌≤◌, Bool, true, false, List, [], ◌∷◌, ◌++◌, length, take, fold, All, Option, None, Some, if◌then◌else◌}
use Rattle.flow_rules.specs.declared.limits.Limits.{Limits}
use Rattle.flow_rules.specs.declared.fault.Fault.{Fault}
use Rattle.flow_rules.specs.declared.change.Change.{Change}
use Rattle.flow_rules.specs.declared.change.Change.TheVariants as changes
use Rattle.flow_rules.specs.Faults.{rule_of}
use Rattle.flow_rules.specs.Changes.{changed}
use Rattle.flow_rules.specs.Walk.{Flows}
use Rattle.flow_calls.specs.declared.call.Op.{Op}
use Rattle.flow_calls.specs.declared.call.Op.TheVariants as ops
use Rattle.flow_calls.specs.declared.entry.Entry.{Entry}
use Rattle.flow_calls.specs.declared.entry.Entry.TheVariants.{Asked, Passed}
use Rattle.object_ids.specs.Ids.{id_for}
use Rattle.indirect_counters.specs.Refusals as shared_calls
use Rattle.port_state.specs.declared.held.Held.{Held}
use Rattle.port_state.specs.declared.held.Held.TheVariants as held
use Rattle.port_state.specs.State.{State, opening, flows_of, objects, create_fault, is_in_effect, next_state, state_behind, first_of, succeeds, stepped, queue_at, waiting, queue_fault, full_fault, table_rule_fault, bound, if_bound, creation_held}

abbrev pub change_unless_refused : Option Fault → Change → List Change
change_unless_refused None change = change ∷ []
change_unless_refused (Some fault) change = []

abbrev pub unless_refused_changes : Option Fault → List Change → List Change
unless_refused_changes None list = list
unless_refused_changes (Some fault) list = []

-- what packets see of an operation that succeeds
abbrev pub change_of : Held → Change
change_of (held.RuleCreated rule table) = changes.Added rule
change_of (held.RuleDestroyed id) = changes.Removed id
change_of (held.SharedCreated id value) = changes.IndirectSet id value
change_of (held.SharedUpdated id value) = changes.IndirectSet id value
change_of (held.SharedDestroyed id) = changes.IndirectGone id

abbrev pub changes_at : State → Held → List Change
changes_at s op = if succeeds s op then change_of op ∷ [] else []

-- the changes of operations of a queue that take effect, one behind the other
abbrev pub changes_stepped : ℕ → State → List Held → List Change
changes_stepped q s [] = []
changes_stepped q s (op ∷ ops) = changes_at s op ++ changes_stepped q (stepped q s op) ops

-- the first of these operations takes effect, and the change that it makes
abbrev pub step_first : ℕ → State → List Held → State
step_first q s [] = s
step_first q s (op ∷ ops) = stepped q s op

abbrev pub changes_first : State → List Held → List Change
changes_first s [] = []
changes_first s (op ∷ ops) = changes_at s op

abbrev pub changes_pushed : ℕ → State → List Change
changes_pushed q s = changes_stepped q s (queue_at q s).held

abbrev pub changes_enqueued : ℕ → Bool → Held → State → List Change
changes_enqueued q true op s = []
changes_enqueued q false op s = changes_pushed q (waiting q op s)

-- the changes that a call makes to what packets see, in order
abbrev pub changes_by : Limits → State → Op → List Change
changes_by limits s (ops.Validate spec) = []
changes_by limits s (ops.Create spec) = change_unless_refused (create_fault limits s spec) (changes.Added (rule_of s.ids spec))
changes_by limits s (ops.Destroy id) = if is_in_effect id s then changes.Removed id ∷ [] else []
changes_by limits s ops.Flush = changes.Flushed ∷ []
changes_by limits s (ops.Query id) = []
changes_by limits s ops.List = []
changes_by limits s (ops.Isolate on) = changes.Isolated on ∷ []
changes_by limits s (ops.IndirectCreate id attr action) =
    change_unless_refused (shared_calls.create_fault s.rxq (objects s) id attr action) (changes.IndirectSet (id_for id (objects s)) action)
changes_by limits s (ops.IndirectUpdate id action) = change_unless_refused (shared_calls.update_fault s.rxq (objects s) id action) (changes.IndirectSet id action)
changes_by limits s (ops.IndirectDestroy id) = change_unless_refused (shared_calls.destroy_fault (objects s) id) (changes.IndirectGone id)
changes_by limits s (ops.IndirectQuery id) = []
changes_by limits s (ops.PatternTemplateCreate id attr pattern) = []
changes_by limits s (ops.PatternTemplateDestroy id) = []
changes_by limits s (ops.ActionsTemplateCreate id attr lists) = []
changes_by limits s (ops.ActionsTemplateDestroy id) = []
changes_by limits s (ops.TableCreate id attr rules_number templates) = []
changes_by limits s (ops.TableDestroy id) = []
changes_by limits s (ops.Configure queues size) = []
changes_by limits s (ops.QueueCreate q postpone table pt act lists) =
    unless_refused_changes (first_of (full_fault s q) (table_rule_fault limits s table pt act lists))
    (if_bound (bound s table pt act lists) (λ spec. changes_enqueued q postpone (creation_held s table spec) s) [])
changes_by limits s (ops.QueueDestroy q postpone rule) = unless_refused_changes (full_fault s q) (changes_enqueued q postpone (held.RuleDestroyed rule) s)
changes_by limits s (ops.QueueIndirectCreate q postpone id attr action) =
    unless_refused_changes (first_of (full_fault s q) (shared_calls.create_fault s.rxq (objects s) id attr action))
    (changes_enqueued q postpone (held.SharedCreated (id_for id (objects s)) action) s)
changes_by limits s (ops.QueueIndirectUpdate q postpone id action) =
    unless_refused_changes (first_of (full_fault s q) (shared_calls.queued_update_fault s.rxq action)) (changes_enqueued q postpone (held.SharedUpdated id action) s)
changes_by limits s (ops.QueueIndirectDestroy q postpone id) = unless_refused_changes (full_fault s q) (changes_enqueued q postpone (held.SharedDestroyed id) s)
changes_by limits s (ops.Push q) = unless_refused_changes (queue_fault s q) (changes_pushed q s)
changes_by limits s (ops.Pull q) = []
changes_by limits s (ops.Start _) = []
changes_by limits s ops.Stop = []
changes_by limits s ops.Quit = []
changes_by limits s (ops.Bad _) = []

-- what packets see behind a call is what they saw before it, with its changes
abbrev pub AreItsChanges : Limits → State → Op → Type 0
AreItsChanges limits s op = flows_of (next_state limits s op) ≡ fold changed (flows_of s) (changes_by limits s op)

-- the changes of an entry behind a state; a frame changes nothing
abbrev pub changes_in : Limits → State → Entry → List Change
changes_in limits s (Asked caller call reply) = changes_by limits s call.op
changes_in limits s (Passed caller parcel verdict) = []

-- the changes of these entries behind a state, in order
abbrev pub changes_behind : Limits → State → List Entry → List Change
changes_behind limits s [] = []
changes_behind limits s (e ∷ es) = changes_in limits s e ++ changes_behind limits (state_behind limits s e) es

-- the changes of a history
unfoldable pub changes_of : Limits → List Entry → List Change
changes_of limits history = changes_behind limits (opening limits) history

-- what packets see at a version: behind so many changes of the history
abbrev pub flows_at : Limits → List Entry → ℕ → Flows
flows_at limits history version = fold changed (flows_of (opening limits)) (take version (changes_of limits history))

-- a rule that takes effect has at most 16 actions
abbrev pub HasFewActions : Change → Type 0
HasFewActions (changes.Added rule) = length rule.actions ≤ 16
HasFewActions _ = Unit {0}

-- the list has the changes of the history, and no rule among them has more than 16 actions
pub record AreTold (limits : Limits) (history : List Entry) (list : List Change) : Type 0 where
  pub all : list ≡ changes_of limits history
  pub few : All HasFewActions list
