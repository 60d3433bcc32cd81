-- What a state keeps under its limits.
use Rattle.std.proofs.Common.{◌≡◌, ℕ, nat_eq, nat_le, nat_lt, ◌-◌, ◌<◌, ◌≤◌, ◌^◌, ◌+◌, Bool, true, false, cond, not, ◌||◌, is_some, List, [], ◌∷◌, ◌++◌, length, map, fold, slice_index_or, Option, None, Some, refl, sym, ap, ◌∙◌, subst, arith, true≢false}
use Rattle.std.specs.List.{All, count_by, list_any}
use Rattle.std.specs.Map.{remove_entry, values_of}
use Rattle.std.specs.Option.{option_map, is_none}
use Rattle.std.proofs.lemmas.Bool.{leb-false, ltb-false, eqb-true, eq-eqb}
use Rattle.std.proofs.lemmas.List.{map-append}
use Rattle.std.proofs.lemmas.List.Sums.{fold-append, sum_by_push}
use Rattle.std.proofs.lemmas.List.Elements.{All-cons, All-nil, All-filter, All-push}
use Rattle.flow_actions.specs.declared.action.Action.{Action}
use Rattle.flow_actions.specs.Kinds.{kind_of, is_shareable}
use Rattle.flow_rules.specs.declared.change.Change.TheVariants as changes
use Rattle.flow_rules.specs.declared.limits.Limits.{Limits}
use Rattle.flow_rules.specs.declared.spec.RuleSpec.{RuleSpec}
use Rattle.flow_rules.specs.declared.spec.Attr.{Attr}
use Rattle.flow_rules.specs.declared.fault.Fault.{Fault}
use Rattle.flow_rules.specs.declared.fault.Cause.TheVariants as causes
use Rattle.flow_rules.specs.Changes.{has_id}
use Rattle.flow_rules.specs.Faults.{fault_if, first, first_fault, rule_of, is_bad, is_count, is_shared, attr_faults}
use Rattle.flow_rules.specs.Lawful.{MayBeInEffect, NamesShared, HasOneFate, IsOfItsKind}
use Rattle.flow_rules.specs.Limits.{AreLimits}
use Rattle.flow_rules.specs.Naming.{rule_at}
use Rattle.flow_rules.specs.OnPort.{IsFor}
use Rattle.flow_rules.specs.RuleView.{RuleView}
use Rattle.flow_rules.specs.Shared.{Shared, shared_at, with_shared, without_shared, IsSharedOn, AreSharedOn}
use Rattle.flow_rules.specs.Valid.{IsValidRule}
use Rattle.flow_rules.specs.Walk.{Flows}
use Rattle.flow_rules.proofs.Keeping.{may-behind}
use Rattle.flow_rules.proofs.SharedKept.{AreSharedOn-with, AreSharedOn-without}
use Rattle.flow_rules.proofs.Validity.{on_port-clear, on_port, may_take-clear}
use Rattle.flow_calls.specs.declared.call.Op.{Op}
use Rattle.flow_calls.specs.declared.call.Op.TheVariants as ops
use Rattle.flow_calls.specs.declared.call.RuleLists.{RuleLists}
use Rattle.flow_calls.specs.declared.entry.Entry.{Entry}
use Rattle.flow_calls.specs.declared.entry.Entry.TheVariants.{Asked, Passed}
use Rattle.object_ids.specs.Ids.{id_for, is_used, id_faults}
use Rattle.indirect_counters.specs.declared.shared_action.SharedAction.{SharedAction}
use Rattle.indirect_counters.specs.Refusals as shared_calls
use Rattle.indirect_counters.proofs.Creating.{IsSharedOn-created, IsSharedOn-updated, update-clear, kind-kept}
use Rattle.template_tables.specs.Refusals.{rules_of, is_out_of_range, is_any_missing, is_busy, pattern_refusals, actions_refusals, table_refusals, pattern_end_refusals, actions_end_refusals, table_end_refusals}
use Rattle.template_tables.specs.Slots.{slot_refusals}
use Rattle.template_tables.specs.TemplatesView.{table_of}
use Rattle.template_tables.specs.Bound.{bind_refusals}
use Rattle.port_state.specs.declared.held.Held.{Held}
use Rattle.port_state.specs.declared.held.Held.TheVariants as held
use Rattle.port_state.specs.Apart.{is_rule, is_held_shared, IsBelow, IsHeldBelow, IsFit, AreApart}
use Rattle.port_state.specs.Effect.{CanHold}
use Rattle.port_state.specs.Kept.{is_held_in}
use Rattle.port_state.specs.Queue.{FlowQueue}
use Rattle.port_state.specs.State.{State, Placed, all_held, queue_at, queue_fault, full_fault, stepped, pushed, pulled, waiting, admitted, enqueued, configured, configure_refusals, objects, users_of, is_held_user, stands_in, shared_set, shared_gone, state_of, state_behind, opening, rule_in, kinds_in, created, destroyed, flushed, isolated, is_in_effect, create_fault, room_fault, ids_fault, first_of, plain, is_plain, next_state, templates_in, with_templates, bound, bound_fault, table_rule_fault, if_bound, creation_held, has_kind_of, is_table_rule_of}
use Rattle.port_state.specs.Tables.{Table, Templates, pattern_made, actions_made, table_made, pattern_gone, actions_gone, table_gone}
use Rattle.port_state.proofs.ApartKept.{AreApart-stepped, AreApart-waiting, AreApart-created, AreApart-destroyed, AreApart-flushed, AreApart-isolated, AreApart-set, AreApart-gone, AreApart-templates, AreApart-configured, AreApart-pulled, update-there, CanHold-bound, CanHold-shared, may-go, none-is, free-objects, in_effect-objects, unless-keeps, if-keeps, count_by-filter, fresh-rules, one_if, one_of}
use Rattle.port_state.proofs.Objects.{object_of}
use Rattle.port_state.proofs.Waiting.{AreBehind, tried, behind-stepped, all-stepped, count-waiting, all-waiting, count-with_queue, all-with_queue, all-at, pushed-keeps, count_by-first, count_by-last, none-held, first_of-none, there-queue, there-full, others-tried}
use Rattle.port_state.proofs.TableRoom.{HaveRoom, room_at, room_of, slot-free, not-busy, room_at-without, room_of-without, room_at-more, rules_of-found}
use Rattle.port_state.proofs.FlowsBehind.{map-without}

-- a held rule is for this port
abbrev pub IsHeldFor : ℕ → Held → Type 0
IsHeldFor rxq (held.RuleCreated rule table) = IsFor rxq rule
IsHeldFor rxq _ = Unit {0}

-- a rule alone beside shared actions
abbrev pub alone : ℕ → Shared → RuleView → Flows
alone rxq shared rule = record { rules = rule ∷ []; shared = shared; isolated = false; rxq = rxq }

-- a held rule may be in effect beside the shared actions in effect, if it has at most 16 actions
abbrev pub MayFollow : ℕ → Shared → Held → Type 0
MayFollow rxq shared (held.RuleCreated rule table) = length rule.actions ≤ 16 → MayBeInEffect rxq (alone rxq shared rule)
MayFollow rxq shared _ = Unit {0}

-- what a state keeps under its limits
pub record IsUnder (limits : Limits) (s : State) : Type 0 where
  pub numbers : s.ids < 2 ^ 32
  pub port : s.rxq ≡ limits.rxq
  pub queues : All (IsFor limits.rxq) (map rule_in s.rules)
  pub shared : AreSharedOn limits.rxq s.shared
  pub plain : count_by is_plain s.rules ≤ limits.flow_max
  pub apart : AreApart s
  pub held_queues : All (IsHeldFor limits.rxq) (all_held s)
  pub tables : HaveRoom s.rules (all_held s) s.templates.tables
  pub room : room_of s.templates.tables ≤ 65536
  pub may : AreLimits limits → All (MayFollow limits.rxq s.shared) (all_held s)

-- the same by parts, but that ids stand apart
record Fits (limits : Limits) (rules : List Placed) (shared : Shared) (ids rxq : ℕ) (tables : List (ℕ × Table)) (list : List Held) : Type 0 where
  pub numbers : ids < 2 ^ 32
  pub port : rxq ≡ limits.rxq
  pub queues : All (IsFor limits.rxq) (map rule_in rules)
  pub values : AreSharedOn limits.rxq shared
  pub plain : count_by is_plain rules ≤ limits.flow_max
  pub held_queues : All (IsHeldFor limits.rxq) list
  pub within : HaveRoom rules list tables
  pub room : room_of tables ≤ 65536
  pub may : AreLimits limits → All (MayFollow limits.rxq shared) list

under : (limits : Limits) (s : State) → AreApart s → Fits limits s.rules s.shared s.ids s.rxq s.templates.tables (all_held s) → IsUnder limits s
under limits s apart fits = record {
  numbers = fits.numbers;
  port = fits.port;
  queues = fits.queues;
  shared = fits.values;
  plain = fits.plain;
  apart = apart;
  held_queues = fits.held_queues;
  tables = fits.within;
  room = fits.room;
  may = fits.may;
}

fits-of : (limits : Limits) (s : State) → IsUnder limits s → Fits limits s.rules s.shared s.ids s.rxq s.templates.tables (all_held s)
fits-of limits s v = record {
  numbers = v.numbers;
  port = v.port;
  queues = v.queues;
  values = v.shared;
  plain = v.plain;
  held_queues = v.held_queues;
  within = v.tables;
  room = v.room;
  may = v.may;
}

-- what holds of each by two facts
all-both : {A : Type 0} (P Q R : A → Type 0) → ((x : A) → P x → Q x → R x) → (xs : List A) → All P xs → All Q xs → All R xs
all-both P Q R both xs ps qs = λ k d within. both (slice_index_or xs k d) (ps k d within) (qs k d within)

-- where none is counted, all fail
pub all-fail : {A : Type 0} (test : A → Bool) (xs : List A) → count_by test xs ≡ 0 → All (λ x. test x ≡ false) xs
all-fail test [] none = All-nil (λ x. test x ≡ false)
all-fail test (x ∷ xs) none = by (test x) refl (all-fail test xs) where
  by : (b : Bool) → test x ≡ b → (count_by test xs ≡ 0 → All (λ y. test y ≡ false) xs) → All (λ y. test y ≡ false) (x ∷ xs)
  by true is others = absurd (omega (arith, none, count_by-first test x xs, ap one_if is))
  by false is others = All-cons (λ y. test y ≡ false) x xs is (others (omega (arith, none, count_by-first test x xs)))

-- a held rule still may be in effect where a value comes in the place of one of its kind, or one goes that it doesn't name
follow-set : (rxq id : ℕ) (value : Action) (shared : Shared) → IsSharedOn rxq value → IsOfItsKind (shared_at id shared) value → (op : Held) → MayFollow rxq shared op
    → MayFollow rxq (with_shared id value shared) op
follow-set rxq id value shared on kind (held.RuleCreated rule table) may = λ few. may-behind rxq (alone rxq shared rule) (changes.IndirectSet id value) (may few) (on, kind)
follow-set rxq id value shared on kind (held.RuleDestroyed rule) may = tt
follow-set rxq id value shared on kind (held.SharedCreated new other) may = tt
follow-set rxq id value shared on kind (held.SharedUpdated new other) may = tt
follow-set rxq id value shared on kind (held.SharedDestroyed new) may = tt

follow-gone : (rxq id : ℕ) (shared : Shared) (op : Held) → MayFollow rxq shared op → is_held_user id op ≡ false → MayFollow rxq (without_shared id shared) op
follow-gone rxq id shared (held.RuleCreated rule table) may unused =
    let P : RuleView → Type 0 = λ (r : RuleView). list_any (is_shared id) r.actions ≡ false in
    λ few. may-behind rxq (alone rxq shared rule) (changes.IndirectGone id) (may few) (All-cons P rule [] unused (All-nil P))
follow-gone rxq id shared (held.RuleDestroyed rule) may unused = tt
follow-gone rxq id shared (held.SharedCreated new other) may unused = tt
follow-gone rxq id shared (held.SharedUpdated new other) may unused = tt
follow-gone rxq id shared (held.SharedDestroyed new) may unused = tt

all-set : (rxq id : ℕ) (value : Action) (shared : Shared) (list : List Held) → IsSharedOn rxq value → IsOfItsKind (shared_at id shared) value → All (MayFollow rxq shared) list
    → All (MayFollow rxq (with_shared id value shared)) list
all-set rxq id value shared list on kind all = λ k d within. follow-set rxq id value shared on kind (slice_index_or list k d) (all k d within)

all-gone : (rxq id : ℕ) (shared : Shared) (list : List Held) → count_by (is_held_user id) list ≡ 0 → All (MayFollow rxq shared) list → All (MayFollow rxq (without_shared id shared)) list
all-gone rxq id shared list unused all =
    all-both (MayFollow rxq shared) (λ op. is_held_user id op ≡ false) (MayFollow rxq (without_shared id shared)) (follow-gone rxq id shared) list all (all-fail (is_held_user id) list unused)

-- a value comes in the place of none, or of one of its kind
kind-free : (value : Action) (o : Option Action) → o ≡ None → IsOfItsKind o value
kind-free value None none = tt
kind-free value (Some old) none = cc

pub kind-created : (s : State) (new : ℕ) (value : Action) (others : List Held) → AreBehind (held.SharedCreated new value) others (all_held s) → AreApart s → IsOfItsKind (shared_at new s.shared) value
kind-created s new value others behind apart = by (shared_at new s.shared) refl where
  by : (o : Option Action) → shared_at new s.shared ≡ o → IsOfItsKind o value
  by None is = tt
  by (Some old) is = absurd (omega (arith, apart.shared new, behind (is_held_shared new), ap one_if (eq-eqb new new refl), ap one_of is))

pub kind-updated : (value : Action) (o : Option Action) → has_kind_of value o ≡ true → IsOfItsKind o value
kind-updated value None is = cc
kind-updated value (Some old) is = kind-kept value (object_of 0 old) (ap not is)

-- a value that was taken as it was enqueued
pub IsSharedOn-queued : (rxq : ℕ) (value : Action) → shared_calls.queued_update_fault rxq value ≡ None → IsSharedOn rxq value
IsSharedOn-queued rxq value none = by (is_shareable (kind_of value)) (is_count value) (is_bad rxq 0 value) refl refl none where
  by : (shareable count bad : Bool) → is_shareable (kind_of value) ≡ shareable → is_bad rxq 0 value ≡ bad
      → first (fault_if (not shareable) causes.KindNotIndirect 0 ++ (fault_if count causes.CannotUpdate 0 ++ fault_if bad causes.ActionConf 0)) ≡ None → IsSharedOn rxq value
  by false count bad a b none = cc
  by true true bad a b none = cc
  by true false true a b none = cc
  by true false false a b none = (a, on_port rxq 0 value b)

-- with fewer rules and fewer held operations, and with these shared values
fewer : (limits : Limits) (s : State) (rules : List Placed) (shared : Shared) (list : List Held) → IsUnder limits s → All (IsFor limits.rxq) (map rule_in rules) → AreSharedOn limits.rxq shared
    → ((test : Placed → Bool) → count_by test rules ≤ count_by test s.rules) → ((test : Held → Bool) → count_by test list ≤ count_by test (all_held s))
    → All (IsHeldFor limits.rxq) list → (AreLimits limits → All (MayFollow limits.rxq shared) list) → Fits limits rules shared s.ids s.rxq s.templates.tables list
fewer limits s rules shared list v queues values few_rules few on may = record {
  numbers = v.numbers;
  port = v.port;
  queues = queues;
  values = values;
  plain = omega (arith, v.plain, few_rules is_plain);
  held_queues = on;
  within = λ id. omega (arith, v.tables id, few_rules (stands_in id), few (is_held_in id));
  room = v.room;
  may = may;
}

-- without the rules of an id, and with the same rules
without : (limits : Limits) (s : State) (id : ℕ) (list : List Held) → IsUnder limits s → ((test : Held → Bool) → count_by test list ≤ count_by test (all_held s))
    → All (IsHeldFor limits.rxq) list → (AreLimits limits → All (MayFollow limits.rxq s.shared) list)
    → Fits limits (destroyed id s).rules s.shared s.ids s.rxq s.templates.tables list
without limits s id list v =
    let kept = All-filter (λ (rule : RuleView). not (has_id id rule)) (IsFor limits.rxq) (map rule_in s.rules) v.queues in
    fewer limits s (destroyed id s).rules s.shared list v (subst (All (IsFor limits.rxq)) (sym (map-without id s.rules)) kept) v.shared
    (λ test. count_by-filter test (λ (r : Placed). not (has_id id r.rule)) s.rules)

sharing : (limits : Limits) (s : State) (shared : Shared) (list : List Held) → IsUnder limits s → AreSharedOn limits.rxq shared
    → ((test : Held → Bool) → count_by test list ≤ count_by test (all_held s)) → All (IsHeldFor limits.rxq) list → (AreLimits limits → All (MayFollow limits.rxq shared) list)
    → Fits limits s.rules shared s.ids s.rxq s.templates.tables list
sharing limits s shared list v values = fewer limits s s.rules shared list v v.queues values (λ test. omega arith)

-- the operation at the head of a queue takes effect, or fails
fits-tried : (limits : Limits) (s : State) (op : Held) (list : List Held) → AreBehind op list (all_held s) → IsUnder limits s → IsFit limits.rxq op → IsHeldFor limits.rxq op
    → All (IsHeldFor limits.rxq) list → (AreLimits limits → All (MayFollow limits.rxq s.shared) list)
    → Fits limits (tried s op).rules (tried s op).shared s.ids s.rxq s.templates.tables list
fits-tried limits s (held.RuleCreated rule table) list behind v fit on others may =
    let r : Placed = record { rule = rule; table = Some table } in
    record {
      numbers = v.numbers;
      port = v.port;
      queues = subst (All (IsFor limits.rxq)) (sym (map-append rule_in s.rules (r ∷ []))) (All-push (IsFor limits.rxq) (map rule_in s.rules) rule v.queues on);
      values = v.shared;
      plain = omega (arith, v.plain, count_by-last is_plain s.rules r);
      held_queues = others;
      within = λ id. omega (arith, v.tables id, behind (is_held_in id), count_by-last (stands_in id) s.rules r);
      room = v.room;
      may = may;
    }
fits-tried limits s (held.RuleDestroyed id) list behind v fit on others may = by (list_any (is_table_rule_of id) s.rules) where
  by : (b : Bool) → Fits limits (cond b (destroyed id s) s).rules (cond b (destroyed id s) s).shared s.ids s.rxq s.templates.tables list
  by true = without limits s id list v (λ test. omega (arith, behind test)) others may
  by false = sharing limits s s.shared list v v.shared (λ test. omega (arith, behind test)) others may
fits-tried limits s (held.SharedCreated new value) list behind v fit on others may =
    sharing limits s (with_shared new value s.shared) list v (AreSharedOn-with limits.rxq new value s.shared fit v.shared) (λ test. omega (arith, behind test)) others
    (λ ranges. all-set limits.rxq new value s.shared list fit (kind-created s new value list behind v.apart) (may ranges))
fits-tried limits s (held.SharedUpdated new value) list behind v fit on others may = by (has_kind_of value (shared_at new s.shared)) refl where
  by : (b : Bool) → has_kind_of value (shared_at new s.shared) ≡ b
      → Fits limits (cond b (shared_set new value s) s).rules (cond b (shared_set new value s) s).shared s.ids s.rxq s.templates.tables list
  by true is =
      let lawful = IsSharedOn-queued limits.rxq value fit in
      sharing limits s (with_shared new value s.shared) list v (AreSharedOn-with limits.rxq new value s.shared lawful v.shared) (λ test. omega (arith, behind test)) others
      (λ ranges. all-set limits.rxq new value s.shared list lawful (kind-updated value (shared_at new s.shared) is) (may ranges))
  by false is = sharing limits s s.shared list v v.shared (λ test. omega (arith, behind test)) others may
fits-tried limits s (held.SharedDestroyed new) list behind v fit on others may = by (is_none (shared_calls.destroy_fault (objects s) new)) refl where
  by : (b : Bool) → is_none (shared_calls.destroy_fault (objects s) new) ≡ b
      → Fits limits (cond b (shared_gone new s) s).rules (cond b (shared_gone new s) s).shared s.ids s.rxq s.templates.tables list
  by true is =
      let unused = (may-go s new (none-is (shared_calls.destroy_fault (objects s) new) is)).unused in
      sharing limits s (without_shared new s.shared) list v (AreSharedOn-without limits.rxq new s.shared v.shared) (λ test. omega (arith, behind test)) others
      (λ ranges. all-gone limits.rxq new s.shared list (omega (arith, unused, behind (is_held_user new))) (may ranges))
  by false is = sharing limits s s.shared list v v.shared (λ test. omega (arith, behind test)) others may

-- an operation takes effect
pub IsUnder-stepped : (limits : Limits) (q : ℕ) (s : State) (op : Held) (ops : List Held) → (queue_at q s).held ≡ op ∷ ops → IsUnder limits s → IsUnder limits (stepped q s op)
IsUnder-stepped limits q s op ops is v =
    let t = stepped q s op in
    let fit = subst (λ n. IsFit n op) v.port (all-stepped (IsFit s.rxq) q s op ops is v.apart.fit).0 in
    let on = all-stepped (IsHeldFor limits.rxq) q s op ops is v.held_queues in
    under limits t (AreApart-stepped q s op ops is v.apart)
    (subst (λ (u : State). Fits limits (tried s op).rules (tried s op).shared u.ids u.rxq u.templates.tables (all_held t)) (sym (others-tried s op))
    (fits-tried limits s op (all_held t) (behind-stepped q s op ops is) v fit on.0 on.1 (λ ranges. (all-stepped (MayFollow limits.rxq s.shared) q s op ops is (v.may ranges)).1)))

pub IsUnder-pushed : (limits : Limits) (q : ℕ) (s : State) → IsUnder limits s → IsUnder limits (pushed q s)
IsUnder-pushed limits q s v = pushed-keeps (IsUnder limits) q (IsUnder-stepped limits q) s v

-- what is no creation of a rule waits
waits : (limits : Limits) (q : ℕ) (op : Held) (s : State) → IsUnder limits s → AreApart (waiting q op s) → q < length s.queues → IsHeldFor limits.rxq op
    → (AreLimits limits → MayFollow limits.rxq s.shared op) → ((id : ℕ) → is_held_in id op ≡ false) → admitted op s ≡ s → IsUnder limits (waiting q op s)
waits limits q op s v apart there on may none same = under limits (waiting q op s) apart
    (subst (λ (t : State). Fits limits t.rules t.shared t.ids t.rxq t.templates.tables (all_held (waiting q op s))) (sym same) (record {
      numbers = v.numbers;
      port = v.port;
      queues = v.queues;
      values = v.shared;
      plain = v.plain;
      held_queues = all-waiting (IsHeldFor limits.rxq) q op s v.held_queues on;
      within = λ id. omega (arith, v.tables id, count-waiting (is_held_in id) q op s there, ap one_if (none id));
      room = v.room;
      may = λ ranges. all-waiting (MayFollow limits.rxq s.shared) q op s (v.may ranges) (may ranges);
    }))

-- an operation that comes to wait
pub IsUnder-waiting : (limits : Limits) (q : ℕ) (op : Held) (s : State) → q < length s.queues → CanHold s op → IsHeldFor limits.rxq op
    → (AreLimits limits → MayFollow limits.rxq s.shared op) → IsUnder limits s → IsUnder limits (waiting q op s)
IsUnder-waiting limits q (held.RuleCreated rule table) s there can on may v =
    let op = held.RuleCreated rule table in
    under limits (waiting q op s) (AreApart-waiting q op s there can v.apart) (record {
      numbers = omega (arith, can.1);
      port = v.port;
      queues = v.queues;
      values = v.shared;
      plain = v.plain;
      held_queues = all-waiting (IsHeldFor limits.rxq) q op s v.held_queues on;
      within = λ id. by id (nat_eq id table) refl (v.tables id) (count-waiting (is_held_in id) q op s there);
      room = v.room;
      may = λ ranges. all-waiting (MayFollow limits.rxq s.shared) q op s (v.may ranges) (may ranges);
    }) where
      by : (id : ℕ) (b : Bool) → nat_eq id table ≡ b → count_by (stands_in id) s.rules + count_by (is_held_in id) (all_held s) ≤ room_at id s.templates.tables
          → count_by (is_held_in id) (all_held (waiting q (held.RuleCreated rule table) s)) ≡ count_by (is_held_in id) (all_held s) + cond b 1 0
          → count_by (stands_in id) s.rules + count_by (is_held_in id) (all_held (waiting q (held.RuleCreated rule table) s)) ≤ room_at id s.templates.tables
      by id true is most more =
          omega (
            arith,
            more,
            subst (λ k. count_by (stands_in k) s.rules + count_by (is_held_in k) (all_held s) < room_at k s.templates.tables) (sym (eqb-true id table is))
                (slot-free s.rules (all_held s) table s.templates.tables can.2 can.3 (v.tables table)),
          )
      by id false is most more = omega (arith, most, more)
IsUnder-waiting limits q (held.RuleDestroyed rule) s there can on may v =
    waits limits q (held.RuleDestroyed rule) s v (AreApart-waiting q (held.RuleDestroyed rule) s there can v.apart) there on may (λ id. refl) refl
IsUnder-waiting limits q (held.SharedCreated new value) s there can on may v =
    waits limits q (held.SharedCreated new value) s v (AreApart-waiting q (held.SharedCreated new value) s there can v.apart) there on may (λ id. refl) refl
IsUnder-waiting limits q (held.SharedUpdated new value) s there can on may v =
    waits limits q (held.SharedUpdated new value) s v (AreApart-waiting q (held.SharedUpdated new value) s there can v.apart) there on may (λ id. refl) refl
IsUnder-waiting limits q (held.SharedDestroyed new) s there can on may v =
    waits limits q (held.SharedDestroyed new) s v (AreApart-waiting q (held.SharedDestroyed new) s there can v.apart) there on may (λ id. refl) refl

IsUnder-enqueued : (limits : Limits) (q : ℕ) (postpone : Bool) (op : Held) (s : State) → q < length s.queues → CanHold s op → IsHeldFor limits.rxq op
    → (AreLimits limits → MayFollow limits.rxq s.shared op) → IsUnder limits s → IsUnder limits (enqueued q postpone op s)
IsUnder-enqueued limits q true op s there can on may v = IsUnder-waiting limits q op s there can on may v
IsUnder-enqueued limits q false op s there can on may v = IsUnder-pushed limits q (waiting q op s) (IsUnder-waiting limits q op s there can on may v)

-- a rule without a fault may be in effect
may-follow : (limits : Limits) (s : State) (table : ℕ) (spec : RuleSpec) → first_fault limits (kinds_in s) spec ≡ None → IsUnder limits s
    → AreLimits limits → MayFollow limits.rxq s.shared (creation_held s table spec)
may-follow limits s table spec none v ranges few =
    let before : Flows = record { rules = []; shared = s.shared; isolated = false; rxq = limits.rxq } in
    may-behind limits.rxq before (changes.Added (rule_of s.ids spec))
    (record {
      valid = All-nil IsValidRule;
      on_port = All-nil (IsFor limits.rxq);
      values = v.shared;
      named = All-nil (NamesShared s.shared);
      one_fate = All-nil (HasOneFate s.shared);
      few = omega arith;
    })
    (may_take-clear limits before s.ids spec (omega (arith, ranges.queues)) few none (omega arith))

-- there is a place and an id for one more rule
pub place-none : (limits : Limits) (s : State) → room_fault limits s ≡ None → count_by is_plain s.rules < limits.flow_max
place-none limits s = by (nat_le limits.flow_max (count_by is_plain s.rules)) (nat_le (2 ^ 32 - 1) s.ids) refl where
  by : (full spent : Bool) → nat_le limits.flow_max (count_by is_plain s.rules) ≡ full
      → cond full (Some (plain causes.StoreFull)) (cond spent (Some (plain causes.TooMany)) None) ≡ None → count_by is_plain s.rules < limits.flow_max
  by true spent t e = cc
  by false spent t e = leb-false limits.flow_max (count_by is_plain s.rules) t

room-none : (limits : Limits) (s : State) → room_fault limits s ≡ None → s.ids < 2 ^ 32 - 1
room-none limits s = by (nat_le limits.flow_max (count_by is_plain s.rules)) (nat_le (2 ^ 32 - 1) s.ids) refl where
  by : (full spent : Bool) → nat_le (2 ^ 32 - 1) s.ids ≡ spent
      → cond full (Some (plain causes.StoreFull)) (cond spent (Some (plain causes.TooMany)) None) ≡ None → s.ids < 2 ^ 32 - 1
  by true spent t e = cc
  by false true t e = cc
  by false false t e = leb-false (2 ^ 32 - 1) s.ids t

IsUnder-created : (limits : Limits) (s : State) (spec : RuleSpec) → create_fault limits s spec ≡ None → IsUnder limits s → IsUnder limits (created (rule_of s.ids spec) s)
IsUnder-created limits s spec none v =
    let parts = first_of-none (first_fault limits (kinds_in s) spec) (room_fault limits s) none in
    let rule : RuleView = rule_of s.ids spec in
    let r : Placed = record { rule = rule; table = None } in
    under limits (created rule s) (AreApart-created rule s refl v.apart) (record {
      numbers = omega (arith, room-none limits s parts.1);
      port = v.port;
      queues = subst (All (IsFor limits.rxq)) (sym (map-append rule_in s.rules (r ∷ [])))
          (All-push (IsFor limits.rxq) (map rule_in s.rules) rule v.queues (on_port-clear limits (kinds_in s) spec parts.0));
      values = v.shared;
      plain = omega (arith, place-none limits s parts.1, count_by-last is_plain s.rules r);
      held_queues = v.held_queues;
      within = λ id. omega (arith, v.tables id, count_by-last (stands_in id) s.rules r);
      room = v.room;
      may = v.may;
    })

IsUnder-destroyed : (limits : Limits) (s : State) (id : ℕ) → IsUnder limits s → IsUnder limits (destroyed id s)
IsUnder-destroyed limits s id v = under limits (destroyed id s) (AreApart-destroyed id s v.apart) (without limits s id (all_held s) v (λ test. omega arith) v.held_queues v.may)

IsUnder-flushed : (limits : Limits) (s : State) → IsUnder limits s → IsUnder limits (flushed s)
IsUnder-flushed limits s v =
    under limits (flushed s) (AreApart-flushed s v.apart)
    (fewer limits s [] s.shared (all_held s) v (All-nil (IsFor limits.rxq)) v.shared (λ test. omega arith) (λ test. omega arith) v.held_queues v.may)

IsUnder-isolated : (limits : Limits) (s : State) (on : Bool) → IsUnder limits s → IsUnder limits (isolated on s)
IsUnder-isolated limits s on v = under limits (isolated on s) (AreApart-isolated on s v.apart) (fits-of limits s v)

IsUnder-set : (limits : Limits) (s : State) (id : ℕ) (value : Action) → IsSharedOn s.rxq value → IsOfItsKind (shared_at id s.shared) value → AreApart (shared_set id value s)
    → IsUnder limits s → IsUnder limits (shared_set id value s)
IsUnder-set limits s id value lawful kind apart v =
    let on = subst (λ n. IsSharedOn n value) v.port lawful in
    under limits (shared_set id value s) apart
    (sharing limits s (with_shared id value s.shared) (all_held s) v (AreSharedOn-with limits.rxq id value s.shared on v.shared) (λ test. omega arith) v.held_queues
    (λ ranges. all-set limits.rxq id value s.shared (all_held s) on kind (v.may ranges)))

IsUnder-gone : (limits : Limits) (s : State) (id : ℕ) → shared_calls.destroy_fault (objects s) id ≡ None → IsUnder limits s → IsUnder limits (shared_gone id s)
IsUnder-gone limits s id none v =
    under limits (shared_gone id s) (AreApart-gone id s v.apart)
    (sharing limits s (without_shared id s.shared) (all_held s) v (AreSharedOn-without limits.rxq id s.shared v.shared) (λ test. omega arith) v.held_queues
    (λ ranges. all-gone limits.rxq id s.shared (all_held s) (omega (arith, (may-go s id none).unused)) (v.may ranges)))

-- other templates and tables
IsUnder-templates : (limits : Limits) (s : State) (change : Templates → Templates) → HaveRoom s.rules (all_held s) (change s.templates).tables → room_of (change s.templates).tables ≤ 65536
    → IsUnder limits s → IsUnder limits (with_templates change s)
IsUnder-templates limits s change within room v = under limits (with_templates change s) (AreApart-templates change s v.apart) (record {
  numbers = v.numbers;
  port = v.port;
  queues = v.queues;
  values = v.shared;
  plain = v.plain;
  held_queues = v.held_queues;
  within = within;
  room = room;
  may = v.may;
})

IsUnder-table_made : (limits : Limits) (s : State) (id : Option ℕ) (attr : Attr) (n : ℕ) (patterns actions : List ℕ) → first (table_refusals (templates_in s) id attr n patterns actions) ≡ None
    → IsUnder limits s → IsUnder limits (with_templates (table_made id (record { attr = attr; patterns = patterns; actions = actions; rules_number = n })) s)
IsUnder-table_made limits s id attr n patterns actions none v =
    let table : Table = record { attr = attr; patterns = patterns; actions = actions; rules_number = n } in
    let entry : ℕ × Table = (id_for id s.templates.tables, table) in
    let others = rules_of (values_of (templates_in s).tables) in
    let tail = fault_if (is_any_missing (templates_in s).patterns patterns) causes.NoObject 0
    ++ (fault_if (is_any_missing (templates_in s).actions actions) causes.NoObject 0 ++ id_faults 64 id (templates_in s).tables) in
    let most = in-range others tail (right (attr_faults attr) (fault_if (is_out_of_range n others) causes.RulesNumber 0 ++ tail) none) in
    IsUnder-templates limits s (table_made id table) (λ q. omega (arith, v.tables q, room_at-more q s.templates.tables entry))
    (omega (arith, most, rules_of-found s.rules (all_held s) s.templates.tables, sum_by_push (λ (x : ℕ × Table). x.1.rules_number) s.templates.tables entry)) v where
      right : (xs ys : List Fault) → first (xs ++ ys) ≡ None → first ys ≡ None
      right [] ys e = e
      right (x ∷ xs) ys e = cc

      in-range : (others : ℕ) (rest : List Fault) → first (fault_if (is_out_of_range n others) causes.RulesNumber 0 ++ rest) ≡ None → others + n ≤ 65536
      in-range others rest none = by (nat_eq n 0) (nat_lt 65536 (others + n)) refl none where
        by : (zero_rules many : Bool) → nat_lt 65536 (others + n) ≡ many → first (fault_if (zero_rules || many) causes.RulesNumber 0 ++ rest) ≡ None → others + n ≤ 65536
        by true many is e = cc
        by false true is e = cc
        by false false is e = ltb-false 65536 (others + n) is

IsUnder-table_gone : (limits : Limits) (s : State) (id : ℕ) → first (table_end_refusals (templates_in s) id) ≡ None → IsUnder limits s → IsUnder limits (with_templates (table_gone id) s)
IsUnder-table_gone limits s id none v =
    IsUnder-templates limits s (table_gone id) (λ q. within q (nat_eq q id) refl (v.tables q)) (omega (arith, v.room, room_of-without id s.templates.tables)) v where
      free : count_by (stands_in id) s.rules + count_by (is_held_in id) (all_held s) ≡ 0
      free = not-busy s.rules (all_held s) id s.templates.tables (by (not (is_used id (templates_in s).tables)) (is_busy (table_of id (templates_in s))) refl none) (v.tables id) where
        by : (missing busy : Bool) → is_busy (table_of id (templates_in s)) ≡ busy → first (fault_if missing causes.NoObject 0 ++ fault_if busy causes.Busy 0) ≡ None
            → is_busy (table_of id (templates_in s)) ≡ false
        by true busy is e = cc
        by false true is e = cc
        by false false is e = is

      within : (q : ℕ) (b : Bool) → nat_eq q id ≡ b → count_by (stands_in q) s.rules + count_by (is_held_in q) (all_held s) ≤ room_at q s.templates.tables
          → count_by (stands_in q) s.rules + count_by (is_held_in q) (all_held s) ≤ room_at q (remove_entry (nat_eq id) s.templates.tables)
      within q true is most = omega (arith, subst (λ k. count_by (stands_in k) s.rules + count_by (is_held_in k) (all_held s) ≡ 0) (sym (eqb-true q id is)) free)
      within q false is most = omega (arith, most, room_at-without id q s.templates.tables is)

IsUnder-configured : (limits : Limits) (s : State) (queues size : ℕ) → IsUnder limits s → IsUnder limits (configured queues size s)
IsUnder-configured limits s queues size v = under limits (configured queues size s) (AreApart-configured queues size s v.apart)
    (subst (Fits limits s.rules s.shared s.ids s.rxq s.templates.tables) (sym (none-held queues)) empty) where
      empty : Fits limits s.rules s.shared s.ids s.rxq s.templates.tables []
      empty =
          sharing limits s s.shared [] v v.shared (λ test. omega arith) (All-nil (IsHeldFor limits.rxq)) (λ ranges. All-nil (MayFollow limits.rxq s.shared))

IsUnder-pulled : (limits : Limits) (q : ℕ) (s : State) → q < length s.queues → IsUnder limits s → IsUnder limits (pulled q s)
IsUnder-pulled limits q s there v =
    let queue : FlowQueue = record { held = (queue_at q s).held; results = [] } in
    under limits (pulled q s) (AreApart-pulled q s there v.apart)
    (sharing limits s s.shared (all_held (pulled q s)) v v.shared (λ test. omega (arith, count-with_queue test q queue s there))
    (all-with_queue (IsHeldFor limits.rxq) q queue s v.held_queues (all-at (IsHeldFor limits.rxq) q s v.held_queues))
    (λ ranges. all-with_queue (MayFollow limits.rxq s.shared) q queue s (v.may ranges) (all-at (MayFollow limits.rxq s.shared) q s (v.may ranges))))

no-fault : (limits : Limits) (s : State) (table pt act : ℕ) (lists : RuleLists) (spec : RuleSpec) → bound s table pt act lists ≡ Some spec
    → table_rule_fault limits s table pt act lists ≡ None → first_fault limits (kinds_in s) spec ≡ None
no-fault limits s table pt act lists spec is none =
    let binding = first (bind_refusals (templates_in s) table pt act lists.pattern lists.actions) in
    (first_of-none (first_fault limits (kinds_in s) spec) (first_of (first (slot_refusals (table_of table (templates_in s)))) (ids_fault s))
    (sym (ap (bound_fault limits s table) is) ∙ (first_of-none binding (bound_fault limits s table (bound s table pt act lists)) none).1)).0

pub IsUnder-bound_waiting : (limits : Limits) (s : State) (q table pt act : ℕ) (lists : RuleLists) (spec : RuleSpec) → q < length s.queues → bound s table pt act lists ≡ Some spec
    → table_rule_fault limits s table pt act lists ≡ None → IsUnder limits s → IsUnder limits (waiting q (creation_held s table spec) s)
IsUnder-bound_waiting limits s q table pt act lists spec there is none v =
    let fine = no-fault limits s table pt act lists spec is none in
    IsUnder-waiting limits q (creation_held s table spec) s there (CanHold-bound limits s table pt act lists spec is none)
    (on_port-clear limits (kinds_in s) spec fine) (may-follow limits s table spec fine v) v

IsUnder-bound : (limits : Limits) (s : State) (q : ℕ) (postpone : Bool) (table pt act : ℕ) (lists : RuleLists) → q < length s.queues → table_rule_fault limits s table pt act lists ≡ None
    → IsUnder limits s → IsUnder limits (if_bound (bound s table pt act lists) (λ spec. enqueued q postpone (creation_held s table spec) s) s)
IsUnder-bound limits s q postpone table pt act lists there none v = by (bound s table pt act lists) refl postpone where
  by : (o : Option RuleSpec) → bound s table pt act lists ≡ o → (later : Bool) → IsUnder limits (if_bound o (λ spec. enqueued q later (creation_held s table spec) s) s)
  by None is later = v
  by (Some spec) is true = IsUnder-bound_waiting limits s q table pt act lists spec there is none v
  by (Some spec) is false = IsUnder-pushed limits q (waiting q (creation_held s table spec) s) (IsUnder-bound_waiting limits s q table pt act lists spec there is none v)

-- a value that is put in at a free id, or in the place of another
pub kind-new : (s : State) (id : Option ℕ) (attr : Attr) (action : Action) → shared_calls.create_fault s.rxq (objects s) id attr action ≡ None
    → IsOfItsKind (shared_at (id_for id (objects s)) s.shared) action
kind-new s id attr action none = kind-free action (shared_at (id_for id (objects s)) s.shared) (free-objects s (id_for id (objects s)) (CanHold-shared s id attr action none).0.free).0

kind-other : (users : ℕ) (value : Action) (o : Option Action) → shared_calls.is_of_other_kind value (option_map (object_of users) o) ≡ false → IsOfItsKind o value
kind-other users value None same = tt
kind-other users value (Some old) same = kind-kept value (object_of users old) same

pub kind-update : (s : State) (id : ℕ) (value : Action) → shared_calls.update_fault s.rxq (objects s) id value ≡ None → IsOfItsKind (shared_at id s.shared) value
kind-update s id value none =
    kind-other (users_of s id) value (shared_at id s.shared)
    (subst (λ (o : Option SharedAction). shared_calls.is_of_other_kind value o ≡ false) (in_effect-objects s id) (update-clear s.rxq (objects s) id value none).same_kind)

pub IsUnder-next : (limits : Limits) (s : State) (op : Op) → IsUnder limits s → IsUnder limits (next_state limits s op)
IsUnder-next limits s (ops.Validate spec) v = v
IsUnder-next limits s (ops.Create spec) v =
    unless-keeps (IsUnder limits) (create_fault limits s spec) (created (rule_of s.ids spec) s) s (λ none. IsUnder-created limits s spec none v) v
IsUnder-next limits s (ops.Destroy id) v = if-keeps (IsUnder limits) (is_in_effect id s) (destroyed id s) s (IsUnder-destroyed limits s id v) v
IsUnder-next limits s ops.Flush v = IsUnder-flushed limits s v
IsUnder-next limits s (ops.Query id) v = v
IsUnder-next limits s ops.List v = v
IsUnder-next limits s (ops.Isolate on) v = IsUnder-isolated limits s on v
IsUnder-next limits s (ops.IndirectCreate id attr action) v =
    let new = id_for id (objects s) in
    unless-keeps (IsUnder limits) (shared_calls.create_fault s.rxq (objects s) id attr action) (shared_set new action s) s
    (λ none. IsUnder-set limits s new action (IsSharedOn-created s.rxq (objects s) id attr action none) (kind-new s id attr action none)
    (AreApart-set new action s (λ _. (free-objects s new (CanHold-shared s id attr action none).0.free).1) v.apart) v) v
IsUnder-next limits s (ops.IndirectUpdate id action) v =
    unless-keeps (IsUnder limits) (shared_calls.update_fault s.rxq (objects s) id action) (shared_set id action s) s
    (λ none. IsUnder-set limits s id action (IsSharedOn-updated s.rxq (objects s) id action none) (kind-update s id action none)
    (AreApart-set id action s (λ gone. absurd (true≢false (sym (update-there s id action none) ∙ ap (λ (o : Option Action). is_some o) gone))) v.apart) v) v
IsUnder-next limits s (ops.IndirectDestroy id) v =
    unless-keeps (IsUnder limits) (shared_calls.destroy_fault (objects s) id) (shared_gone id s) s (λ none. IsUnder-gone limits s id none v) v
IsUnder-next limits s (ops.IndirectQuery id) v = v
IsUnder-next limits s (ops.PatternTemplateCreate id attr pattern) v =
    unless-keeps (IsUnder limits) (first (pattern_refusals (templates_in s) id attr pattern)) (with_templates (pattern_made id pattern) s) s
    (λ none. IsUnder-templates limits s (pattern_made id pattern) v.tables v.room v) v
IsUnder-next limits s (ops.PatternTemplateDestroy id) v =
    unless-keeps (IsUnder limits) (first (pattern_end_refusals (templates_in s) id)) (with_templates (pattern_gone id) s) s
    (λ none. IsUnder-templates limits s (pattern_gone id) v.tables v.room v) v
IsUnder-next limits s (ops.ActionsTemplateCreate id attr lists) v =
    unless-keeps (IsUnder limits) (first (actions_refusals (templates_in s) id attr lists.actions lists.masks)) (with_templates (actions_made id lists.actions lists.masks) s) s
    (λ none. IsUnder-templates limits s (actions_made id lists.actions lists.masks) v.tables v.room v) v
IsUnder-next limits s (ops.ActionsTemplateDestroy id) v =
    unless-keeps (IsUnder limits) (first (actions_end_refusals (templates_in s) id)) (with_templates (actions_gone id) s) s
    (λ none. IsUnder-templates limits s (actions_gone id) v.tables v.room v) v
IsUnder-next limits s (ops.TableCreate id attr rules_number templates) v =
    unless-keeps (IsUnder limits) (first (table_refusals (templates_in s) id attr rules_number templates.patterns.items templates.actions.items))
    (with_templates (table_made id (record { attr = attr; patterns = templates.patterns.items; actions = templates.actions.items; rules_number = rules_number })) s) s
    (λ none. IsUnder-table_made limits s id attr rules_number templates.patterns.items templates.actions.items none v) v
IsUnder-next limits s (ops.TableDestroy id) v =
    unless-keeps (IsUnder limits) (first (table_end_refusals (templates_in s) id)) (with_templates (table_gone id) s) s (λ none. IsUnder-table_gone limits s id none v) v
IsUnder-next limits s (ops.Configure queues size) v =
    unless-keeps (IsUnder limits) (first (configure_refusals s queues size)) (configured queues size s) s (λ none. IsUnder-configured limits s queues size v) v
IsUnder-next limits s (ops.QueueCreate q postpone table pt act lists) v =
    unless-keeps (IsUnder limits) (first_of (full_fault s q) (table_rule_fault limits s table pt act lists))
    (if_bound (bound s table pt act lists) (λ spec. enqueued q postpone (creation_held s table spec) s) s) s
    (λ none. let parts = first_of-none (full_fault s q) (table_rule_fault limits s table pt act lists) none in
    IsUnder-bound limits s q postpone table pt act lists (there-full s q parts.0) parts.1 v) v
IsUnder-next limits s (ops.QueueDestroy q postpone rule) v =
    unless-keeps (IsUnder limits) (full_fault s q) (enqueued q postpone (held.RuleDestroyed rule) s) s
    (λ none. IsUnder-enqueued limits q postpone (held.RuleDestroyed rule) s (there-full s q none) tt tt (λ ranges. tt) v) v
IsUnder-next limits s (ops.QueueIndirectCreate q postpone id attr action) v =
    let op = held.SharedCreated (id_for id (objects s)) action in
    unless-keeps (IsUnder limits) (first_of (full_fault s q) (shared_calls.create_fault s.rxq (objects s) id attr action)) (enqueued q postpone op s) s
    (λ none. let parts = first_of-none (full_fault s q) (shared_calls.create_fault s.rxq (objects s) id attr action) none in
    IsUnder-enqueued limits q postpone op s (there-full s q parts.0) (CanHold-shared s id attr action parts.1) tt (λ ranges. tt) v) v
IsUnder-next limits s (ops.QueueIndirectUpdate q postpone id action) v =
    unless-keeps (IsUnder limits) (first_of (full_fault s q) (shared_calls.queued_update_fault s.rxq action)) (enqueued q postpone (held.SharedUpdated id action) s) s
    (λ none. let parts = first_of-none (full_fault s q) (shared_calls.queued_update_fault s.rxq action) none in
    IsUnder-enqueued limits q postpone (held.SharedUpdated id action) s (there-full s q parts.0) parts.1 tt (λ ranges. tt) v) v
IsUnder-next limits s (ops.QueueIndirectDestroy q postpone id) v =
    unless-keeps (IsUnder limits) (full_fault s q) (enqueued q postpone (held.SharedDestroyed id) s) s
    (λ none. IsUnder-enqueued limits q postpone (held.SharedDestroyed id) s (there-full s q none) tt tt (λ ranges. tt) v) v
IsUnder-next limits s (ops.Push q) v = unless-keeps (IsUnder limits) (queue_fault s q) (pushed q s) s (λ none. IsUnder-pushed limits q s v) v
IsUnder-next limits s (ops.Pull q) v = unless-keeps (IsUnder limits) (queue_fault s q) (pulled q s) s (λ none. IsUnder-pulled limits q s (there-queue s q none) v) v
IsUnder-next limits s (ops.Start _) v = v
IsUnder-next limits s ops.Stop v = v
IsUnder-next limits s ops.Quit v = v
IsUnder-next limits s (ops.Bad _) v = v

pub IsUnder-behind : (limits : Limits) (s : State) (e : Entry) → IsUnder limits s → IsUnder limits (state_behind limits s e)
IsUnder-behind limits s (Asked caller call reply) v = IsUnder-next limits s call.op v
IsUnder-behind limits s (Passed caller parcel verdict) v = v

IsUnder-fold : (limits : Limits) (s : State) (h : List Entry) → IsUnder limits s → IsUnder limits (fold (state_behind limits) s h)
IsUnder-fold limits s [] v = v
IsUnder-fold limits s (e ∷ h) v = IsUnder-fold limits (state_behind limits s e) h (IsUnder-behind limits s e v)

-- the state behind none
pub IsUnder-opening : (limits : Limits) → IsUnder limits (opening limits)
IsUnder-opening limits = record {
  numbers = omega arith;
  port = refl;
  queues = All-nil (IsFor limits.rxq);
  shared = All-nil (λ (entry : ℕ × Action). IsSharedOn limits.rxq entry.1);
  plain = omega arith;
  apart = record {
    rules = λ id. omega arith;
    shared = λ id. omega arith;
    given = All-nil (IsBelow 0);
    below = All-nil (IsHeldBelow 0);
    fit = All-nil (IsFit limits.rxq);
  };
  held_queues = All-nil (IsHeldFor limits.rxq);
  tables = λ id. omega arith;
  room = omega arith;
  may = λ ranges. All-nil (MayFollow limits.rxq []);
}

-- the state behind any history
pub IsUnder-state_of : (limits : Limits) (h : List Entry) → IsUnder limits (state_of limits h)
unfolding state_of
IsUnder-state_of limits h = IsUnder-fold limits (opening limits) h (IsUnder-opening limits)

-- the state behind one more entry
pub state_of-push : (limits : Limits) (h : List Entry) (e : Entry) → state_of limits (h ++ e ∷ []) ≡ state_behind limits (state_of limits h) e
unfolding state_of
state_of-push limits h e = fold-append (state_behind limits) (opening limits) h (e ∷ [])

pub state_of-nil : (limits : Limits) → state_of limits [] ≡ opening limits
unfolding state_of
state_of-nil limits = refl

-- the id of no rule in effect is found at none
pub rule_at-none : (id : ℕ) (rules : List Placed) → count_by (is_rule id) rules ≡ 0 → rule_at id (map rule_in rules) ≡ None
rule_at-none id [] none = refl
rule_at-none id (r ∷ rules) none = by (has_id id r.rule) (rule_at-none id rules) (count_by-first (is_rule id) r rules) where
  by : (b : Bool) → (count_by (is_rule id) rules ≡ 0 → rule_at id (map rule_in rules) ≡ None) → count_by (is_rule id) (r ∷ rules) ≡ cond b 1 0 + count_by (is_rule id) rules
      → cond b (Some r.rule) (rule_at id (map rule_in rules)) ≡ None
  by true others first = absurd (omega (arith, none, first))
  by false others first = others (omega (arith, none, first))

-- the id that is given next is that of no rule
pub IsFresh-apart : (s : State) → AreApart s → rule_at s.ids (map rule_in s.rules) ≡ None
IsFresh-apart s apart = rule_at-none s.ids s.rules (fresh-rules s.ids s.rules apart.given)
