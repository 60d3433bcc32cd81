-- What packets see behind each call, and behind a push.
use Rattle.std.proofs.Common.{◌≡◌, ℕ, Bool, true, false, cond, not, List, [], ◌∷◌, map, filter, fold, Option, None, Some, refl, sym, ap, ◌∙◌}
use Rattle.std.proofs.lemmas.List.{map-append}
use Rattle.std.proofs.lemmas.List.Sums.{fold-append}
use Rattle.flow_actions.specs.declared.action.Action.{Action}
use Rattle.flow_rules.specs.declared.change.Change.{Change}
use Rattle.flow_rules.specs.declared.change.Change.TheVariants as changes
use Rattle.flow_rules.specs.declared.limits.Limits.{Limits}
use Rattle.flow_rules.specs.declared.spec.RuleSpec.{RuleSpec}
use Rattle.flow_rules.specs.declared.fault.Fault.{Fault}
use Rattle.flow_rules.specs.Changes.{has_id, changed}
use Rattle.flow_rules.specs.Faults.{first, rule_of}
use Rattle.flow_rules.specs.RuleView.{RuleView}
use Rattle.flow_rules.specs.Walk.{Flows}
use Rattle.flow_calls.specs.declared.call.Op.{Op}
use Rattle.flow_calls.specs.declared.call.Op.TheVariants as ops
use Rattle.object_ids.specs.Ids.{id_for}
use Rattle.indirect_counters.specs.Refusals as shared_calls
use Rattle.template_tables.specs.Refusals.{pattern_refusals, actions_refusals, table_refusals, pattern_end_refusals, actions_end_refusals, table_end_refusals}
use Rattle.port_state.specs.declared.held.Held.{Held}
use Rattle.port_state.specs.declared.held.Held.TheVariants as held
use Rattle.port_state.specs.Changes.{change_unless_refused, unless_refused_changes, AreItsChanges, change_of, changes_at, changes_stepped, changes_pushed, changes_enqueued}
use Rattle.port_state.specs.State.{State, Placed, queue_at, queue_fault, full_fault, succeeds, taken, stepped, pushed, pulled, waiting, enqueued, configured, configure_refusals, objects, shared_set, shared_gone, flows_of, rule_in, created, destroyed, is_in_effect, create_fault, first_of, unless_refused, templates_in, with_templates, bound, table_rule_fault, if_bound, creation_held}
use Rattle.port_state.specs.Tables.{Templates, pattern_made, actions_made, table_made, pattern_gone, actions_gone, table_gone}

-- without a rule, by its own id or by that of what is in effect
pub map-without : (id : ℕ) (rules : List Placed) → map rule_in (filter (λ r. not (has_id id r.rule)) rules) ≡ filter (λ (rule : RuleView). not (has_id id rule)) (map rule_in rules)
map-without id [] = refl
map-without id (r ∷ rules) = by (has_id id r.rule) (map-without id rules) where
  by : (b : Bool) → map rule_in (filter (λ x. not (has_id id x.rule)) rules) ≡ filter (λ (rule : RuleView). not (has_id id rule)) (map rule_in rules)
      → map rule_in (cond (not b) (r ∷ filter (λ x. not (has_id id x.rule)) rules) (filter (λ x. not (has_id id x.rule)) rules))
      ≡ cond (not b) (r.rule ∷ filter (λ (rule : RuleView). not (has_id id rule)) (map rule_in rules)) (filter (λ (rule : RuleView). not (has_id id rule)) (map rule_in rules))
  by true same = same
  by false same = ap (λ rs. r.rule ∷ rs) same

changes-created : (s : State) (rule : RuleView) (fault : Option Fault)
    → flows_of (unless_refused fault (created rule s) s) ≡ fold changed (flows_of s) (change_unless_refused fault (changes.Added rule))
changes-created s rule None = ap (λ rules. record { rules = rules; shared = s.shared; isolated = s.isolated; rxq = s.rxq }) (map-append rule_in s.rules (record { rule = rule; table = None } ∷ []))
changes-created s rule (Some fault) = refl

changes-destroyed : (s : State) (id : ℕ) (there : Bool)
    → flows_of (cond there (destroyed id s) s) ≡ fold changed (flows_of s) (cond there (changes.Removed id ∷ []) [])
changes-destroyed s id true = ap (λ rules. record { rules = rules; shared = s.shared; isolated = s.isolated; rxq = s.rxq }) (map-without id s.rules)
changes-destroyed s id false = refl

changes-shared_set : (s : State) (id : ℕ) (value : Action) (fault : Option Fault)
    → flows_of (unless_refused fault (shared_set id value s) s) ≡ fold changed (flows_of s) (change_unless_refused fault (changes.IndirectSet id value))
changes-shared_set s id value None = refl
changes-shared_set s id value (Some fault) = refl

changes-shared_gone : (s : State) (id : ℕ) (fault : Option Fault)
    → flows_of (unless_refused fault (shared_gone id s) s) ≡ fold changed (flows_of s) (change_unless_refused fault (changes.IndirectGone id))
changes-shared_gone s id None = refl
changes-shared_gone s id (Some fault) = refl

changes-templates : (s : State) (change : Templates → Templates) (fault : Option Fault) → flows_of (unless_refused fault (with_templates change s) s) ≡ flows_of s
changes-templates s change None = refl
changes-templates s change (Some fault) = refl

-- what an operation that succeeds does, packets see as its change
pub flows-taken : (s : State) (op : Held) → flows_of (taken s op) ≡ changed (flows_of s) (change_of op)
flows-taken s (held.RuleCreated rule table) =
    ap (λ rules. record { rules = rules; shared = s.shared; isolated = s.isolated; rxq = s.rxq }) (map-append rule_in s.rules (record { rule = rule; table = Some table } ∷ []))
flows-taken s (held.RuleDestroyed id) = ap (λ rules. record { rules = rules; shared = s.shared; isolated = s.isolated; rxq = s.rxq }) (map-without id s.rules)
flows-taken s (held.SharedCreated id value) = refl
flows-taken s (held.SharedUpdated id value) = refl
flows-taken s (held.SharedDestroyed id) = refl

pub flows-stepped : (q : ℕ) (s : State) (op : Held) → flows_of (stepped q s op) ≡ fold changed (flows_of s) (changes_at s op)
flows-stepped q s op = by (succeeds s op) where
  by : (b : Bool) → flows_of (cond b (taken s op) s) ≡ fold changed (flows_of s) (cond b (change_of op ∷ []) [])
  by true = flows-taken s op
  by false = refl

flows-steps : (q : ℕ) (list : List Held) (s : State) → flows_of (fold (stepped q) s list) ≡ fold changed (flows_of s) (changes_stepped q s list)
flows-steps q [] s = refl
flows-steps q (op ∷ list) s =
    let others = changes_stepped q (stepped q s op) list in
    flows-steps q list (stepped q s op) ∙ ap (λ (f : Flows). fold changed f others) (flows-stepped q s op) ∙ sym (fold-append changed (flows_of s) (changes_at s op) others)

pub flows-pushed : (q : ℕ) (s : State) → flows_of (pushed q s) ≡ fold changed (flows_of s) (changes_pushed q s)
flows-pushed q s = flows-steps q (queue_at q s).held s

-- what waits, packets don't see
pub flows-waiting : (q : ℕ) (op : Held) (s : State) → flows_of (waiting q op s) ≡ flows_of s
flows-waiting q (held.RuleCreated rule table) s = refl
flows-waiting q (held.RuleDestroyed id) s = refl
flows-waiting q (held.SharedCreated id value) s = refl
flows-waiting q (held.SharedUpdated id value) s = refl
flows-waiting q (held.SharedDestroyed id) s = refl

flows-enqueued : (q : ℕ) (postpone : Bool) (op : Held) (s : State) → flows_of (enqueued q postpone op s) ≡ fold changed (flows_of s) (changes_enqueued q postpone op s)
flows-enqueued q true op s = flows-waiting q op s
flows-enqueued q false op s = flows-pushed q (waiting q op s) ∙ ap (λ (f : Flows). fold changed f (changes_pushed q (waiting q op s))) (flows-waiting q op s)

flows-unless : (fault : Option Fault) (done s : State) (list : List Change) → flows_of done ≡ fold changed (flows_of s) list
    → flows_of (unless_refused fault done s) ≡ fold changed (flows_of s) (unless_refused_changes fault list)
flows-unless None done s list same = same
flows-unless (Some fault) done s list same = refl

flows-bound : (s : State) (q : ℕ) (postpone : Bool) (table : ℕ) (o : Option RuleSpec)
    → flows_of (if_bound o (λ spec. enqueued q postpone (creation_held s table spec) s) s)
    ≡ fold changed (flows_of s) (if_bound o (λ spec. changes_enqueued q postpone (creation_held s table spec) s) [])
flows-bound s q postpone table None = refl
flows-bound s q postpone table (Some spec) = flows-enqueued q postpone (creation_held s table spec) s

flows-stay : (fault : Option Fault) (done s : State) → flows_of done ≡ flows_of s → flows_of (unless_refused fault done s) ≡ flows_of s
flows-stay None done s same = same
flows-stay (Some fault) done s same = refl

pub are_its_changes : (limits : Limits) (s : State) (op : Op) → AreItsChanges limits s op
are_its_changes limits s (ops.Validate spec) = refl
are_its_changes limits s (ops.Create spec) = changes-created s (rule_of s.ids spec) (create_fault limits s spec)
are_its_changes limits s (ops.Destroy id) = changes-destroyed s id (is_in_effect id s)
are_its_changes limits s ops.Flush = refl
are_its_changes limits s (ops.Query id) = refl
are_its_changes limits s ops.List = refl
are_its_changes limits s (ops.Isolate on) = refl
are_its_changes limits s (ops.IndirectCreate id attr action) =
    changes-shared_set s (id_for id (objects s)) action (shared_calls.create_fault s.rxq (objects s) id attr action)
are_its_changes limits s (ops.IndirectUpdate id action) = changes-shared_set s id action (shared_calls.update_fault s.rxq (objects s) id action)
are_its_changes limits s (ops.IndirectDestroy id) = changes-shared_gone s id (shared_calls.destroy_fault (objects s) id)
are_its_changes limits s (ops.IndirectQuery id) = refl
are_its_changes limits s (ops.PatternTemplateCreate id attr pattern) =
    changes-templates s (pattern_made id pattern) (first (pattern_refusals (templates_in s) id attr pattern))
are_its_changes limits s (ops.PatternTemplateDestroy id) = changes-templates s (pattern_gone id) (first (pattern_end_refusals (templates_in s) id))
are_its_changes limits s (ops.ActionsTemplateCreate id attr lists) =
    changes-templates s (actions_made id lists.actions lists.masks) (first (actions_refusals (templates_in s) id attr lists.actions lists.masks))
are_its_changes limits s (ops.ActionsTemplateDestroy id) = changes-templates s (actions_gone id) (first (actions_end_refusals (templates_in s) id))
are_its_changes limits s (ops.TableCreate id attr rules_number templates) =
    changes-templates s (table_made id (record { attr = attr; patterns = templates.patterns.items; actions = templates.actions.items; rules_number = rules_number }))
    (first (table_refusals (templates_in s) id attr rules_number templates.patterns.items templates.actions.items))
are_its_changes limits s (ops.TableDestroy id) = changes-templates s (table_gone id) (first (table_end_refusals (templates_in s) id))
are_its_changes limits s (ops.Configure queues size) = flows-stay (first (configure_refusals s queues size)) (configured queues size s) s refl
are_its_changes limits s (ops.QueueCreate q postpone table pt act lists) =
    flows-unless (first_of (full_fault s q) (table_rule_fault limits s table pt act lists)) (if_bound (bound s table pt act lists) (λ spec. enqueued q postpone (creation_held s table spec) s) s) s
    (if_bound (bound s table pt act lists) (λ spec. changes_enqueued q postpone (creation_held s table spec) s) [])
    (flows-bound s q postpone table (bound s table pt act lists))
are_its_changes limits s (ops.QueueDestroy q postpone rule) =
    flows-unless (full_fault s q) (enqueued q postpone (held.RuleDestroyed rule) s) s (changes_enqueued q postpone (held.RuleDestroyed rule) s) (flows-enqueued q postpone (held.RuleDestroyed rule) s)
are_its_changes limits s (ops.QueueIndirectCreate q postpone id attr action) =
    let op = held.SharedCreated (id_for id (objects s)) action in
    flows-unless (first_of (full_fault s q) (shared_calls.create_fault s.rxq (objects s) id attr action)) (enqueued q postpone op s) s (changes_enqueued q postpone op s) (flows-enqueued q postpone op s)
are_its_changes limits s (ops.QueueIndirectUpdate q postpone id action) =
    let op = held.SharedUpdated id action in
    flows-unless (first_of (full_fault s q) (shared_calls.queued_update_fault s.rxq action)) (enqueued q postpone op s) s (changes_enqueued q postpone op s) (flows-enqueued q postpone op s)
are_its_changes limits s (ops.QueueIndirectDestroy q postpone id) =
    flows-unless (full_fault s q) (enqueued q postpone (held.SharedDestroyed id) s) s (changes_enqueued q postpone (held.SharedDestroyed id) s) (flows-enqueued q postpone (held.SharedDestroyed id) s)
are_its_changes limits s (ops.Push q) = flows-unless (queue_fault s q) (pushed q s) s (changes_pushed q s) (flows-pushed q s)
are_its_changes limits s (ops.Pull q) = flows-stay (queue_fault s q) (pulled q s) s refl
are_its_changes limits s (ops.Start _) = refl
are_its_changes limits s ops.Stop = refl
are_its_changes limits s ops.Quit = refl
are_its_changes limits s (ops.Bad _) = refl
