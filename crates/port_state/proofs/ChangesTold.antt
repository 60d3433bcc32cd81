-- The changes of a history: they add up to what packets see, and they are lawful.
use Rattle.std.proofs.Common.{◌≡◌, ℕ, ◌+◌, ◌<◌, ◌≤◌, Bool, true, false, cond, not, map, take, drop, length, fold, List, [], ◌∷◌, ◌++◌, Option, None, Some, refl, sym, ap, ◌∙◌, subst, arith, append_assoc, append-nil}
use Rattle.std.specs.List.{All, count_by, list_any}
use Rattle.std.specs.Option.{is_none}
use Rattle.std.proofs.lemmas.Bool.{eq-eqb}
use Rattle.std.proofs.lemmas.List.{take-append-drop, length-map}
use Rattle.std.proofs.lemmas.List.Sums.{fold-append, sum_by-cons}
use Rattle.std.proofs.lemmas.List.Elements.{All-nil, All-head, All-map}
use Rattle.flow_actions.specs.declared.action.Action.{Action}
use Rattle.flow_rules.specs.declared.limits.Limits.{Limits}
use Rattle.flow_actions.specs.declared.verdict.Verdict.{Verdict}
use Rattle.flow_rules.specs.declared.fault.Fault.{Fault}
use Rattle.flow_rules.specs.declared.spec.RuleSpec.{RuleSpec}
use Rattle.flow_rules.specs.declared.change.Change.{Change}
use Rattle.flow_rules.specs.declared.change.Change.TheVariants as changes
use Rattle.flow_rules.specs.Changes.{changed}
use Rattle.flow_rules.specs.Faults.{first_fault, rule_of, is_shared}
use Rattle.flow_rules.specs.Lawful.{AreLawful, AreLawfulOn, MayBeInEffect, NamesShared, HasOneFate, IsOfItsKind, MayTakeEffect}
use Rattle.flow_rules.specs.Limits.{AreLimits}
use Rattle.flow_rules.specs.OnPort.{IsFor}
use Rattle.flow_rules.specs.RuleView.{RuleView}
use Rattle.flow_rules.specs.Shared.{shared_at, IsSharedOn}
use Rattle.flow_rules.specs.Valid.{IsValidRule}
use Rattle.flow_rules.specs.Walk.{Flows}
use Rattle.flow_rules.proofs.Keeping.{may-behind}
use Rattle.flow_rules.proofs.LawfulParts.{lawful-parts}
use Rattle.flow_rules.proofs.Validity.{may_take-clear}
use Rattle.object_ids.specs.Ids.{id_for}
use Rattle.indirect_counters.specs.Refusals as shared_calls
use Rattle.indirect_counters.proofs.Creating.{IsSharedOn-created, IsSharedOn-updated}
use Rattle.flow_calls.specs.declared.caller.Caller.{Caller}
use Rattle.flow_calls.specs.declared.parcel.Parcel.{Parcel}
use Rattle.flow_calls.specs.declared.call.Op.{Op}
use Rattle.flow_calls.specs.declared.call.Op.TheVariants as ops
use Rattle.flow_calls.specs.declared.entry.Entry.{Entry}
use Rattle.flow_calls.specs.declared.entry.Entry.TheVariants.{Asked, Passed}
use Rattle.flow_calls.specs.declared.call.RuleLists.{RuleLists}
use Rattle.port_state.specs.declared.held.Held.{Held}
use Rattle.port_state.specs.declared.held.Held.TheVariants as held
use Rattle.port_state.specs.Apart.{is_rule, is_held_rule, IsFit}
use Rattle.port_state.specs.Changes.{HasFewActions, AreTold, change_unless_refused, unless_refused_changes, changes_at, changes_stepped, changes_pushed, changes_enqueued, changes_by, changes_in, changes_behind, changes_of, flows_at}
use Rattle.port_state.specs.State.{State, Placed, opening, flows_of, rule_in, kinds_in, objects, all_held, queue_at, stepped, waiting, is_plain, is_user, is_in_effect, is_table_rule_of, has_kind_of, create_fault, room_fault, first_of, full_fault, queue_fault, table_rule_fault, bound, if_bound, creation_held, state_of, state_behind}
use Rattle.port_state.proofs.ApartKept.{CanHold-shared, may-go, one_if}
use Rattle.port_state.proofs.FlowsBehind.{are_its_changes, flows-stepped, flows-waiting}
use Rattle.port_state.proofs.StateKept.{IsUnder, IsUnder-behind, IsUnder-opening, IsUnder-stepped, IsUnder-waiting, IsUnder-bound_waiting, IsFresh-apart, MayFollow, place-none, rule_at-none, all-fail, kind-created, kind-updated, kind-new, kind-update, IsSharedOn-queued}
use Rattle.port_state.proofs.TableRoom.{is_in_table, is_creation, few-in-tables}
use Rattle.port_state.proofs.Waiting.{AreBehind, all-front, all-behind, behind-stepped, all-stepped, rest-stepped, first_of-none, there-full}

-- the changes of entries, one behind the other
changes_behind-append : (limits : Limits) (s : State) (xs ys : List Entry)
    → changes_behind limits s (xs ++ ys) ≡ changes_behind limits s xs ++ changes_behind limits (fold (state_behind limits) s xs) ys
changes_behind-append limits s [] ys = refl
changes_behind-append limits s (e ∷ xs) ys =
    ap (λ cs. changes_in limits s e ++ cs) (changes_behind-append limits (state_behind limits s e) xs ys)
    ∙ sym (append_assoc (changes_in limits s e) (changes_behind limits (state_behind limits s e) xs) (changes_behind limits (fold (state_behind limits) (state_behind limits s e) xs) ys))

pub changes_of-append : (limits : Limits) (front others : List Entry) → changes_of limits (front ++ others) ≡ changes_of limits front ++ changes_behind limits (state_of limits front) others
unfolding changes_of state_of
changes_of-append limits front others = changes_behind-append limits (opening limits) front others

-- no entry, no change
pub changes_of-nil : (limits : Limits) → changes_of limits [] ≡ []
unfolding changes_of
changes_of-nil limits = refl

-- one more entry
pub changes_of-push : (limits : Limits) (h : List Entry) (e : Entry) → changes_of limits (h ++ e ∷ []) ≡ changes_of limits h ++ changes_in limits (state_of limits h) e
changes_of-push limits h e = changes_of-append limits h (e ∷ []) ∙ ap (λ cs. changes_of limits h ++ cs) (append-nil (changes_in limits (state_of limits h) e))

pub changes_of-passed : (limits : Limits) (h : List Entry) (caller : Caller) (parcel : Parcel) (v : Verdict) → changes_of limits (h ++ Passed caller parcel v ∷ []) ≡ changes_of limits h
changes_of-passed limits h caller parcel v = changes_of-push limits h (Passed caller parcel v) ∙ append-nil (changes_of limits h)

-- what packets see behind an entry, and behind many
flows-in : (limits : Limits) (s : State) (e : Entry) → flows_of (state_behind limits s e) ≡ fold changed (flows_of s) (changes_in limits s e)
flows-in limits s (Asked caller call reply) = are_its_changes limits s call.op
flows-in limits s (Passed caller parcel verdict) = refl

flows-behind : (limits : Limits) (s : State) (h : List Entry) → flows_of (fold (state_behind limits) s h) ≡ fold changed (flows_of s) (changes_behind limits s h)
flows-behind limits s [] = refl
flows-behind limits s (e ∷ h) =
    let others = changes_behind limits (state_behind limits s e) h in
    flows-behind limits (state_behind limits s e) h
    ∙ ap (λ (f : Flows). fold changed f others) (flows-in limits s e)
    ∙ sym (fold-append changed (flows_of s) (changes_in limits s e) others)

pub flows_of-changes : (limits : Limits) (h : List Entry) → flows_of (state_of limits h) ≡ fold changed (flows_of (opening limits)) (changes_of limits h)
unfolding changes_of state_of
flows_of-changes limits h = flows-behind limits (opening limits) h

pub flows_of-equal : (limits : Limits) (one other : List Entry) → changes_of limits one ≡ changes_of limits other → flows_of (state_of limits one) ≡ flows_of (state_of limits other)
flows_of-equal limits one other same =
    flows_of-changes limits one ∙ ap (fold changed (flows_of (opening limits))) same ∙ sym (flows_of-changes limits other)

-- the changes from a version on lead to what packets see now
pub flows-from : (limits : Limits) (h : List Entry) (n : ℕ) → fold changed (flows_at limits h n) (drop n (changes_of limits h)) ≡ flows_of (state_of limits h)
flows-from limits h n =
    sym (fold-append changed (flows_of (opening limits)) (take n (changes_of limits h)) (drop n (changes_of limits h)))
    ∙ ap (fold changed (flows_of (opening limits))) (take-append-drop n (changes_of limits h)) ∙ sym (flows_of-changes limits h)

-- behind lawful changes stands what may be in effect
may-fold : (rxq : ℕ) (flows : Flows) (list : List Change) → MayBeInEffect rxq flows → AreLawfulOn rxq flows list → MayBeInEffect rxq (fold changed flows list)
may-fold rxq flows [] may lawful = may
may-fold rxq flows (change ∷ list) may lawful = may-fold rxq (changed flows change) list lawful.1 lawful.2

-- rules stand in a table, or in none
parted : (rules : List Placed) → length rules ≡ count_by is_plain rules + count_by is_in_table rules
parted [] = refl
parted (r ∷ rules) =
    let one = sum_by-cons (λ (x : Placed). cond (is_plain x) 1 0) r rules in
    let other = sum_by-cons (λ (x : Placed). cond (is_in_table x) 1 0) r rules in
    by (is_plain r) (parted rules) one other where
      by : (b : Bool) → length rules ≡ count_by is_plain rules + count_by is_in_table rules → count_by is_plain (r ∷ rules) ≡ cond b 1 0 + count_by is_plain rules
          → count_by is_in_table (r ∷ rules) ≡ cond (not b) 1 0 + count_by is_in_table rules → length (r ∷ rules) ≡ count_by is_plain (r ∷ rules) + count_by is_in_table (r ∷ rules)
      by true behind one other = omega (arith, behind, one, other)
      by false behind one other = omega (arith, behind, one, other)

-- a rule that is created
lawful-created : (limits : Limits) (s : State) (spec : RuleSpec) (fault : Option Fault) → create_fault limits s spec ≡ fault → AreLimits limits → IsUnder limits s
    → MayBeInEffect limits.rxq (flows_of s) → All HasFewActions (change_unless_refused fault (changes.Added (rule_of s.ids spec)))
    → AreLawfulOn limits.rxq (flows_of s) (change_unless_refused fault (changes.Added (rule_of s.ids spec)))
lawful-created limits s spec (Some fault) is ranges under may few = tt
lawful-created limits s spec None is ranges under may few =
    let parts = first_of-none (first_fault limits (kinds_in s) spec) (room_fault limits s) is in
    let change = changes.Added (rule_of s.ids spec) in
    let room : length (map rule_in s.rules) < 131072 = omega (
      arith,
      length-map s.rules rule_in,
      parted s.rules,
      place-none limits s parts.1,
      few-in-tables s.templates.tables s.rules (all_held s) under.tables,
      under.room,
      ranges.rules,
    ) in
    let come = may_take-clear limits (flows_of s) s.ids spec (omega (arith, ranges.queues)) (All-head HasFewActions change [] few) parts.0 room in
    (IsFresh-apart s under.apart, may-behind limits.rxq (flows_of s) change may come, tt)

lawful-destroyed : (limits : Limits) (s : State) (id : ℕ) (there : Bool) → MayBeInEffect limits.rxq (flows_of s)
    → AreLawfulOn limits.rxq (flows_of s) (cond there (changes.Removed id ∷ []) [])
lawful-destroyed limits s id true may = (tt, may-behind limits.rxq (flows_of s) (changes.Removed id) may tt, tt)
lawful-destroyed limits s id false may = tt

-- an action that rules share is set
lawful-set : (limits : Limits) (s : State) (id : ℕ) (value : Action) (fault : Option Fault) → IsUnder limits s → MayBeInEffect limits.rxq (flows_of s)
    → (fault ≡ None → IsSharedOn s.rxq value) → (fault ≡ None → IsOfItsKind (shared_at id s.shared) value)
    → AreLawfulOn limits.rxq (flows_of s) (change_unless_refused fault (changes.IndirectSet id value))
lawful-set limits s id value (Some fault) under may on kind = tt
lawful-set limits s id value None under may on kind =
    (tt, may-behind limits.rxq (flows_of s) (changes.IndirectSet id value) may (subst (λ n. IsSharedOn n value) under.port (on refl), kind refl), tt)

-- and then it goes: no rule names it
unnamed : (id : ℕ) (rules : List Placed) → count_by (is_user id) rules ≡ 0 → All (λ (rule : RuleView). list_any (is_shared id) rule.actions ≡ false) (map rule_in rules)
unnamed id rules none = All-map (λ (rule : RuleView). list_any (is_shared id) rule.actions ≡ false) rule_in rules (all-fail (is_user id) rules none)

lawful-gone : (limits : Limits) (s : State) (id : ℕ) (fault : Option Fault) → shared_calls.destroy_fault (objects s) id ≡ fault → MayBeInEffect limits.rxq (flows_of s)
    → AreLawfulOn limits.rxq (flows_of s) (change_unless_refused fault (changes.IndirectGone id))
lawful-gone limits s id (Some fault) is may = tt
lawful-gone limits s id None is may =
    (tt, may-behind limits.rxq (flows_of s) (changes.IndirectGone id) may (unnamed id s.rules (omega (arith, (may-go s id is).unused))), tt)

-- the operation at the head of a queue, and the others
record Heads (limits : Limits) (s : State) (op : Held) : Type 0 where
  pub others : List Held
  pub behind : AreBehind op others (all_held s)
  pub fit : IsFit limits.rxq op
  pub follow : MayFollow limits.rxq s.shared op

-- what it changes is lawful
lawful-step : (limits : Limits) (s : State) (op : Held) → Heads limits s op → AreLimits limits → IsUnder limits s → MayBeInEffect limits.rxq (flows_of s) → All HasFewActions (changes_at s op)
    → AreLawfulOn limits.rxq (flows_of s) (changes_at s op)
lawful-step limits s (held.RuleCreated rule table) head ranges under may few =
    let op = held.RuleCreated rule table in
    let change = changes.Added rule in
    let alone = head.follow (All-head HasFewActions change [] few) in
    let flows = flows_of s in
    let one : 1 ≤ count_by is_creation (all_held s) = omega (arith, head.behind is_creation) in
    let room : length (map rule_in s.rules) < 131072 = omega (
      arith,
      length-map s.rules rule_in,
      parted s.rules,
      under.plain,
      one,
      few-in-tables s.templates.tables s.rules (all_held s) under.tables,
      under.room,
      ranges.rules,
    ) in
    let none : count_by (is_rule rule.id) s.rules ≡ 0 = omega (arith, under.apart.rules rule.id, head.behind (is_held_rule rule.id), ap one_if (eq-eqb rule.id rule.id refl)) in
    let take : MayTakeEffect limits.rxq flows rule = record {
      valid = All-head IsValidRule rule [] alone.valid;
      on_port = All-head (IsFor limits.rxq) rule [] alone.on_port;
      named = All-head (NamesShared s.shared) rule [] alone.named;
      one_fate = All-head (HasOneFate s.shared) rule [] alone.one_fate;
      room = room;
    } in
    (rule_at-none rule.id s.rules none, may-behind limits.rxq flows change may take, tt)
lawful-step limits s (held.RuleDestroyed id) head ranges under may few = lawful-destroyed limits s id (list_any (is_table_rule_of id) s.rules) may
lawful-step limits s (held.SharedCreated new value) head ranges under may few =
    (tt, may-behind limits.rxq (flows_of s) (changes.IndirectSet new value) may (head.fit, kind-created s new value head.others head.behind under.apart), tt)
lawful-step limits s (held.SharedUpdated new value) head ranges under may few = by (has_kind_of value (shared_at new s.shared)) refl where
  by : (b : Bool) → has_kind_of value (shared_at new s.shared) ≡ b → AreLawfulOn limits.rxq (flows_of s) (cond b (changes.IndirectSet new value ∷ []) [])
  by true is =
      (tt, may-behind limits.rxq (flows_of s) (changes.IndirectSet new value) may (IsSharedOn-queued limits.rxq value head.fit, kind-updated value (shared_at new s.shared) is), tt)
  by false is = tt
lawful-step limits s (held.SharedDestroyed new) head ranges under may few = by (shared_calls.destroy_fault (objects s) new) refl where
  by : (o : Option Fault) → shared_calls.destroy_fault (objects s) new ≡ o → AreLawfulOn limits.rxq (flows_of s) (cond (is_none o) (changes.IndirectGone new ∷ []) [])
  by None is = (tt, may-behind limits.rxq (flows_of s) (changes.IndirectGone new) may (unnamed new s.rules (omega (arith, (may-go s new is).unused))), tt)
  by (Some fault) is = tt

-- of a queue that holds this one first
heads : (limits : Limits) (q : ℕ) (s : State) (op : Held) (list : List Held) → (queue_at q s).held ≡ op ∷ list → AreLimits limits → IsUnder limits s → Heads limits s op
heads limits q s op list is ranges under = record {
  others = all_held (stepped q s op);
  behind = behind-stepped q s op list is;
  fit = subst (λ n. IsFit n op) under.port (all-stepped (IsFit s.rxq) q s op list is under.apart.fit).0;
  follow = (all-stepped (MayFollow limits.rxq s.shared) q s op list is (under.may ranges)).0;
}

-- and so are those of a push, one behind the other
lawful-steps : (limits : Limits) (q : ℕ) (list : List Held) (s : State) → (queue_at q s).held ≡ list → AreLimits limits → IsUnder limits s → MayBeInEffect limits.rxq (flows_of s)
    → All HasFewActions (changes_stepped q s list) → AreLawfulOn limits.rxq (flows_of s) (changes_stepped q s list)
lawful-steps limits q [] s is ranges under may few = tt
lawful-steps limits q (op ∷ list) s is ranges under may few =
    let next = stepped q s op in
    let here = changes_at s op in
    let others = changes_stepped q next list in
    let same = flows-stepped q s op in
    let now = lawful-step limits s op (heads limits q s op list is ranges under) ranges under may (all-front HasFewActions here others few) in
    let may-next = subst (MayBeInEffect limits.rxq) (sym same) (may-fold limits.rxq (flows_of s) here may now) in
    let later = lawful-steps limits q list next (rest-stepped q s op list is) ranges (IsUnder-stepped limits q s op list is under) may-next (all-behind HasFewActions here others few) in
    (lawful-parts limits.rxq (flows_of s) here others).1 (now, subst (λ (f : Flows). AreLawfulOn limits.rxq f others) same later)

lawful-pushed : (limits : Limits) (q : ℕ) (s : State) → AreLimits limits → IsUnder limits s → MayBeInEffect limits.rxq (flows_of s) → All HasFewActions (changes_pushed q s)
    → AreLawfulOn limits.rxq (flows_of s) (changes_pushed q s)
lawful-pushed limits q s ranges under may few = lawful-steps limits q (queue_at q s).held s refl ranges under may few

-- an operation that is enqueued without being postponed takes effect with those before it
lawful-enqueued : (limits : Limits) (q : ℕ) (postpone : Bool) (op : Held) (s : State) → AreLimits limits → IsUnder limits (waiting q op s) → MayBeInEffect limits.rxq (flows_of s)
    → All HasFewActions (changes_enqueued q postpone op s) → AreLawfulOn limits.rxq (flows_of s) (changes_enqueued q postpone op s)
lawful-enqueued limits q true op s ranges under may few = tt
lawful-enqueued limits q false op s ranges under may few =
    let same = flows-waiting q op s in
    subst (λ (f : Flows). AreLawfulOn limits.rxq f (changes_pushed q (waiting q op s))) same
    (lawful-pushed limits q (waiting q op s) ranges under (subst (MayBeInEffect limits.rxq) (sym same) may) few)

lawful-unless : (rxq : ℕ) (flows : Flows) (fault : Option Fault) (list : List Change) → (fault ≡ None → All HasFewActions list → AreLawfulOn rxq flows list)
    → All HasFewActions (unless_refused_changes fault list) → AreLawfulOn rxq flows (unless_refused_changes fault list)
lawful-unless rxq flows None list lawful few = lawful refl few
lawful-unless rxq flows (Some fault) list lawful few = tt

lawful-bound : (limits : Limits) (s : State) (q : ℕ) (postpone : Bool) (table pt act : ℕ) (lists : RuleLists) → q < length s.queues → table_rule_fault limits s table pt act lists ≡ None
    → AreLimits limits → IsUnder limits s → MayBeInEffect limits.rxq (flows_of s)
    → All HasFewActions (if_bound (bound s table pt act lists) (λ spec. changes_enqueued q postpone (creation_held s table spec) s) [])
    → AreLawfulOn limits.rxq (flows_of s) (if_bound (bound s table pt act lists) (λ spec. changes_enqueued q postpone (creation_held s table spec) s) [])
lawful-bound limits s q postpone table pt act lists there none ranges under may = by (bound s table pt act lists) refl where
  by : (o : Option RuleSpec) → bound s table pt act lists ≡ o → All HasFewActions (if_bound o (λ spec. changes_enqueued q postpone (creation_held s table spec) s) [])
      → AreLawfulOn limits.rxq (flows_of s) (if_bound o (λ spec. changes_enqueued q postpone (creation_held s table spec) s) [])
  by None is few = tt
  by (Some spec) is few =
      lawful-enqueued limits q postpone (creation_held s table spec) s ranges (IsUnder-bound_waiting limits s q table pt act lists spec there is none under) may few

-- the changes of a call are lawful
lawful-call : (limits : Limits) (s : State) (op : Op) → AreLimits limits → IsUnder limits s → MayBeInEffect limits.rxq (flows_of s) → All HasFewActions (changes_by limits s op)
    → AreLawfulOn limits.rxq (flows_of s) (changes_by limits s op)
lawful-call limits s (ops.Validate spec) ranges under may few = tt
lawful-call limits s (ops.Create spec) ranges under may few = lawful-created limits s spec (create_fault limits s spec) refl ranges under may few
lawful-call limits s (ops.Destroy id) ranges under may few = lawful-destroyed limits s id (is_in_effect id s) may
lawful-call limits s ops.Flush ranges under may few = (tt, may-behind limits.rxq (flows_of s) changes.Flushed may tt, tt)
lawful-call limits s (ops.Query id) ranges under may few = tt
lawful-call limits s ops.List ranges under may few = tt
lawful-call limits s (ops.Isolate on) ranges under may few = (tt, may-behind limits.rxq (flows_of s) (changes.Isolated on) may tt, tt)
lawful-call limits s (ops.IndirectCreate id attr action) ranges under may few =
    lawful-set limits s (id_for id (objects s)) action (shared_calls.create_fault s.rxq (objects s) id attr action) under may
    (λ none. IsSharedOn-created s.rxq (objects s) id attr action none) (λ none. kind-new s id attr action none)
lawful-call limits s (ops.IndirectUpdate id action) ranges under may few =
    lawful-set limits s id action (shared_calls.update_fault s.rxq (objects s) id action) under may
    (λ none. IsSharedOn-updated s.rxq (objects s) id action none) (λ none. kind-update s id action none)
lawful-call limits s (ops.IndirectDestroy id) ranges under may few = lawful-gone limits s id (shared_calls.destroy_fault (objects s) id) refl may
lawful-call limits s (ops.IndirectQuery id) ranges under may few = tt
lawful-call limits s (ops.PatternTemplateCreate id attr pattern) ranges under may few = tt
lawful-call limits s (ops.PatternTemplateDestroy id) ranges under may few = tt
lawful-call limits s (ops.ActionsTemplateCreate id attr lists) ranges under may few = tt
lawful-call limits s (ops.ActionsTemplateDestroy id) ranges under may few = tt
lawful-call limits s (ops.TableCreate id attr rules_number templates) ranges under may few = tt
lawful-call limits s (ops.TableDestroy id) ranges under may few = tt
lawful-call limits s (ops.Configure queues size) ranges under may few = tt
lawful-call limits s (ops.QueueCreate q postpone table pt act lists) ranges under may few =
    lawful-unless limits.rxq (flows_of s) (first_of (full_fault s q) (table_rule_fault limits s table pt act lists))
    (if_bound (bound s table pt act lists) (λ spec. changes_enqueued q postpone (creation_held s table spec) s) [])
    (λ none some. let parts = first_of-none (full_fault s q) (table_rule_fault limits s table pt act lists) none in
    lawful-bound limits s q postpone table pt act lists (there-full s q parts.0) parts.1 ranges under may some) few
lawful-call limits s (ops.QueueDestroy q postpone rule) ranges under may few =
    let op = held.RuleDestroyed rule in
    lawful-unless limits.rxq (flows_of s) (full_fault s q) (changes_enqueued q postpone op s)
    (λ none some. lawful-enqueued limits q postpone op s ranges (IsUnder-waiting limits q op s (there-full s q none) tt tt (λ _. tt) under) may some) few
lawful-call limits s (ops.QueueIndirectCreate q postpone id attr action) ranges under may few =
    let op = held.SharedCreated (id_for id (objects s)) action in
    lawful-unless limits.rxq (flows_of s) (first_of (full_fault s q) (shared_calls.create_fault s.rxq (objects s) id attr action)) (changes_enqueued q postpone op s)
    (λ none some. let parts = first_of-none (full_fault s q) (shared_calls.create_fault s.rxq (objects s) id attr action) none in
    lawful-enqueued limits q postpone op s ranges (IsUnder-waiting limits q op s (there-full s q parts.0) (CanHold-shared s id attr action parts.1) tt (λ _. tt) under) may some) few
lawful-call limits s (ops.QueueIndirectUpdate q postpone id action) ranges under may few =
    let op = held.SharedUpdated id action in
    lawful-unless limits.rxq (flows_of s) (first_of (full_fault s q) (shared_calls.queued_update_fault s.rxq action)) (changes_enqueued q postpone op s)
    (λ none some. let parts = first_of-none (full_fault s q) (shared_calls.queued_update_fault s.rxq action) none in
    lawful-enqueued limits q postpone op s ranges (IsUnder-waiting limits q op s (there-full s q parts.0) parts.1 tt (λ _. tt) under) may some) few
lawful-call limits s (ops.QueueIndirectDestroy q postpone id) ranges under may few =
    let op = held.SharedDestroyed id in
    lawful-unless limits.rxq (flows_of s) (full_fault s q) (changes_enqueued q postpone op s)
    (λ none some. lawful-enqueued limits q postpone op s ranges (IsUnder-waiting limits q op s (there-full s q none) tt tt (λ _. tt) under) may some) few
lawful-call limits s (ops.Push q) ranges under may few =
    lawful-unless limits.rxq (flows_of s) (queue_fault s q) (changes_pushed q s) (λ none some. lawful-pushed limits q s ranges under may some) few
lawful-call limits s (ops.Pull q) ranges under may few = tt
lawful-call limits s (ops.Start _) ranges under may few = tt
lawful-call limits s ops.Stop ranges under may few = tt
lawful-call limits s ops.Quit ranges under may few = tt
lawful-call limits s (ops.Bad _) ranges under may few = tt

lawful-entry : (limits : Limits) (s : State) (e : Entry) → AreLimits limits → IsUnder limits s → MayBeInEffect limits.rxq (flows_of s) → All HasFewActions (changes_in limits s e)
    → AreLawfulOn limits.rxq (flows_of s) (changes_in limits s e)
lawful-entry limits s (Asked caller call reply) ranges under may few = lawful-call limits s call.op ranges under may few
lawful-entry limits s (Passed caller parcel verdict) ranges under may few = tt

-- and so are those of entries, one behind the other
lawful-entries : (limits : Limits) (s : State) (h : List Entry) → AreLimits limits → IsUnder limits s → MayBeInEffect limits.rxq (flows_of s)
    → All HasFewActions (changes_behind limits s h) → AreLawfulOn limits.rxq (flows_of s) (changes_behind limits s h)
lawful-entries limits s [] ranges under may few = tt
lawful-entries limits s (e ∷ h) ranges under may few =
    let next = state_behind limits s e in
    let here = changes_in limits s e in
    let others = changes_behind limits next h in
    let same = flows-in limits s e in
    let now = lawful-entry limits s e ranges under may (all-front HasFewActions here others few) in
    let may-next = subst (MayBeInEffect limits.rxq) (sym same) (may-fold limits.rxq (flows_of s) here may now) in
    let later = lawful-entries limits next h ranges (IsUnder-behind limits s e under) may-next (all-behind HasFewActions here others few) in
    (lawful-parts limits.rxq (flows_of s) here others).1 (now, subst (λ (f : Flows). AreLawfulOn limits.rxq f others) same later)

lawful-whole : (limits : Limits) (h : List Entry) → AreLimits limits → All HasFewActions (changes_of limits h) → AreLawfulOn limits.rxq (flows_of (opening limits)) (changes_of limits h)
unfolding changes_of
lawful-whole limits h ranges few = lawful-entries limits (opening limits) h ranges (IsUnder-opening limits)
    (record {
      valid = All-nil IsValidRule;
      on_port = All-nil (IsFor limits.rxq);
      values = All-nil (λ (entry : ℕ × Action). IsSharedOn limits.rxq entry.1);
      named = All-nil (NamesShared []);
      one_fate = All-nil (HasOneFate []);
      few = omega arith;
    })
    few

-- from each version on
pub lawful-from : (limits : Limits) (h : List Entry) (n : ℕ) → AreLimits limits → All HasFewActions (changes_of limits h) → AreLawful limits (flows_at limits h n) (drop n (changes_of limits h))
lawful-from limits h n ranges few =
    let all = changes_of limits h in
    let start = flows_of (opening limits) in
    ((lawful-parts limits.rxq start (take n all) (drop n all)).0 (subst (AreLawfulOn limits.rxq start) (sym (take-append-drop n all)) (lawful-whole limits h ranges few))).1

-- a list that tells the changes of a history, and an entry more
pub AreTold-nil : (limits : Limits) (list : List Change) → list ≡ [] → AreTold limits [] list
AreTold-nil limits list is = record { all = is ∙ sym (changes_of-nil limits); few = subst (All HasFewActions) (sym is) (All-nil HasFewActions) }

pub AreTold-push : (limits : Limits) (h : List Entry) (e : Entry) (list new more : List Change) → AreTold limits h list → new ≡ list ++ more
    → more ≡ changes_in limits (state_of limits h) e → All HasFewActions new → AreTold limits (h ++ e ∷ []) new
AreTold-push limits h e list new more told is by few = record {
  all = is ∙ ap (λ cs. cs ++ more) told.all ∙ ap (λ cs. changes_of limits h ++ cs) by ∙ sym (changes_of-push limits h e);
  few = few;
}

pub AreTold-passed : (limits : Limits) (h : List Entry) (caller : Caller) (parcel : Parcel) (v : Verdict) (list : List Change) → AreTold limits h list
    → AreTold limits (h ++ Passed caller parcel v ∷ []) list
AreTold-passed limits h caller parcel v list told = record { all = told.all ∙ sym (changes_of-passed limits h caller parcel v); few = told.few }
