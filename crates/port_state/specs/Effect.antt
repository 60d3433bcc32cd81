-- What an accepted call does, as the code hands it on.
use Rattle.std.specs.Prelude.{◌≡◌, ℕ, ◌+◌, ◌<◌, ◌^◌, ◌-◌, Bool, true, false, List, [], ◌∷◌, length, None, IsSome}
use Rattle.flow_rules.specs.declared.change.Change.{Change}
use Rattle.flow_rules.specs.declared.change.Change.TheVariants as changes
use Rattle.flow_rules.specs.Faults.{first}
use Rattle.flow_rules.specs.Shared.{IsSharedOn}
use Rattle.indirect_counters.specs.Sound.{CanAdd}
use Rattle.indirect_counters.specs.Refusals as shared_calls
use Rattle.template_tables.specs.Refusals.{pattern_end_refusals, actions_end_refusals, table_end_refusals}
use Rattle.template_tables.specs.Slots.{slot_refusals}
use Rattle.template_tables.specs.TemplatesView.{table_of}
use Rattle.port_state.specs.declared.effect.Effect.{Effect}
use Rattle.port_state.specs.declared.effect.Effect.TheVariants as effects
use Rattle.port_state.specs.declared.effect.RuleEffect.{RuleEffect}
use Rattle.port_state.specs.declared.effect.RuleEffect.TheVariants as rules
use Rattle.port_state.specs.declared.effect.TemplateEffect.{TemplateEffect}
use Rattle.port_state.specs.declared.effect.TemplateEffect.TheVariants as templates
use Rattle.port_state.specs.declared.effect.QueueEffect.{QueueEffect}
use Rattle.port_state.specs.declared.effect.QueueEffect.TheVariants as queues
use Rattle.port_state.specs.declared.held.Held.{Held}
use Rattle.port_state.specs.declared.held.Held.TheVariants as held
use Rattle.port_state.specs.Changes.{changes_enqueued, changes_pushed}
use Rattle.port_state.specs.State.{State, is_in_effect, objects, created, destroyed, flushed, isolated, shared_set, shared_gone, templates_in, with_templates, queue_at, queue_fault, full_fault, configure_refusals, configured, enqueued, pushed, pulled}
use Rattle.port_state.specs.Tables.{Templates, pattern_made, actions_made, table_made, pattern_gone, actions_gone, table_gone}

abbrev pub rules_done : State → RuleEffect → State
rules_done s (rules.Created rule told) = created rule s
rules_done s (rules.Destroyed id) = destroyed id s
rules_done s rules.Flushed = flushed s
rules_done s (rules.SharedCreated id action) = shared_set id action s
rules_done s (rules.SharedUpdated id action) = shared_set id action s
rules_done s (rules.SharedDestroyed id) = shared_gone id s
rules_done s (rules.Isolated on) = isolated on s

abbrev pub templates_done : TemplateEffect → Templates → Templates
templates_done (templates.PatternMade id attr pattern) = pattern_made id pattern
templates_done (templates.PatternGone id) = pattern_gone id
templates_done (templates.ActionsMade id attr lists) = actions_made id lists.actions lists.masks
templates_done (templates.ActionsGone id) = actions_gone id
templates_done (templates.TableMade id attr rules_number named) =
    table_made id (record { attr = attr; patterns = named.patterns.items; actions = named.actions.items; rules_number = rules_number })
templates_done (templates.TableGone id) = table_gone id

abbrev pub queues_done : State → QueueEffect → State
queues_done s (queues.Configured number size) = configured number size s
queues_done s (queues.Enqueued q postpone op) = enqueued q postpone op s
queues_done s (queues.Pushed q) = pushed q s
queues_done s (queues.Pulled q) = pulled q s

abbrev pub done : State → Effect → State
done s effects.Nothing = s
done s (effects.Rules effect) = rules_done s effect
done s (effects.Templates effect) = with_templates (templates_done effect) s
done s (effects.Queues effect) = queues_done s effect

-- the change of what packets see that an effect on rules makes
abbrev pub change_by : RuleEffect → Change
change_by (rules.Created rule told) = changes.Added told
change_by (rules.Destroyed id) = changes.Removed id
change_by rules.Flushed = changes.Flushed
change_by (rules.SharedCreated id action) = changes.IndirectSet id action
change_by (rules.SharedUpdated id action) = changes.IndirectSet id action
change_by (rules.SharedDestroyed id) = changes.IndirectGone id
change_by (rules.Isolated on) = changes.Isolated on

abbrev pub queue_changes : State → QueueEffect → List Change
queue_changes s (queues.Configured number size) = []
queue_changes s (queues.Enqueued q postpone op) = changes_enqueued q postpone op s
queue_changes s (queues.Pushed q) = changes_pushed q s
queue_changes s (queues.Pulled q) = []

-- the changes that an effect makes, in order
abbrev pub changes_done : State → Effect → List Change
changes_done s effects.Nothing = []
changes_done s (effects.Rules effect) = change_by effect ∷ []
changes_done s (effects.Templates effect) = []
changes_done s (effects.Queues effect) = queue_changes s effect

-- how many operations it may let take effect
abbrev pub enqueued_operations : State → ℕ → Bool → ℕ
enqueued_operations s q true = 0
enqueued_operations s q false = length (queue_at q s).held + 1

abbrev pub queue_operations : State → QueueEffect → ℕ
queue_operations s (queues.Configured number size) = 0
queue_operations s (queues.Enqueued q postpone op) = enqueued_operations s q postpone
queue_operations s (queues.Pushed q) = length (queue_at q s).held
queue_operations s (queues.Pulled q) = 0

abbrev pub operations : State → Effect → ℕ
operations s effects.Nothing = 0
operations s (effects.Rules effect) = 1
operations s (effects.Templates effect) = 0
operations s (effects.Queues effect) = queue_operations s effect

-- nothing stands in the way of an effect
abbrev pub AreRulesDue : State → RuleEffect → Type 0
AreRulesDue s (rules.Created rule told) = (rule.id ≡ s.ids) × (s.ids < 2 ^ 32 - 1) × (told ≡ rule)
AreRulesDue s (rules.Destroyed id) = is_in_effect id s ≡ true
AreRulesDue s (rules.SharedCreated id action) = CanAdd id action (objects s) × IsSharedOn s.rxq action
AreRulesDue s (rules.SharedUpdated id action) = shared_calls.update_fault s.rxq (objects s) id action ≡ None
AreRulesDue s (rules.SharedDestroyed id) = shared_calls.destroy_fault (objects s) id ≡ None
AreRulesDue s _ = Unit {0}

abbrev pub AreTemplatesDue : State → TemplateEffect → Type 0
AreTemplatesDue s (templates.PatternGone id) = first (pattern_end_refusals (templates_in s) id) ≡ None
AreTemplatesDue s (templates.ActionsGone id) = first (actions_end_refusals (templates_in s) id) ≡ None
AreTemplatesDue s (templates.TableGone id) = first (table_end_refusals (templates_in s) id) ≡ None
AreTemplatesDue s _ = Unit {0}

-- an operation can be held
abbrev pub CanHold : State → Held → Type 0
CanHold s (held.RuleCreated rule table) =
    (rule.id ≡ s.ids) × (s.ids < 2 ^ 32 - 1) × IsSome (table_of table (templates_in s)) × (first (slot_refusals (table_of table (templates_in s))) ≡ None)
CanHold s (held.SharedCreated id value) = CanAdd id value (objects s) × IsSharedOn s.rxq value
CanHold s (held.SharedUpdated id value) = shared_calls.queued_update_fault s.rxq value ≡ None
CanHold s _ = Unit {0}

abbrev pub AreQueuesDue : State → QueueEffect → Type 0
AreQueuesDue s (queues.Configured number size) = first (configure_refusals s number size) ≡ None
AreQueuesDue s (queues.Enqueued q postpone op) = (full_fault s q ≡ None) × CanHold s op
AreQueuesDue s (queues.Pushed q) = queue_fault s q ≡ None
AreQueuesDue s (queues.Pulled q) = queue_fault s q ≡ None

abbrev pub IsDue : State → Effect → Type 0
IsDue s effects.Nothing = Unit {0}
IsDue s (effects.Rules effect) = AreRulesDue s effect
IsDue s (effects.Templates effect) = AreTemplatesDue s effect
IsDue s (effects.Queues effect) = AreQueuesDue s effect
