-- The ids of held operations stay apart from those in effect and from each other, whatever is called.
use Rattle.std.proofs.Common.{◌≡◌, ℕ, nat_eq, nat_lt, nat_le, ◌+◌, ◌-◌, ◌^◌, ◌<◌, ◌≤◌, Bool, true, false, cond, not, ◌||◌, is_some, List, [], ◌∷◌, ◌++◌, length, filter, Option, None, Some, IsSome, refl, sym, ap, ◌∙◌, subst, arith, true≢false}
use Rattle.std.specs.List.{All, count_by, list_any}
use Rattle.std.specs.Option.{option_map, is_none}
use Rattle.std.proofs.lemmas.Bool.{eqb-true, eq-eqb, ne_eqb, and_parts, ltb-false, leb-false}
use Rattle.std.proofs.lemmas.List.Elements.{All-nil, All-head, All-tail, All-push, All-filter, All-weaker}
use Rattle.flow_actions.specs.declared.action.Action.{Action}
use Rattle.flow_rules.specs.declared.limits.Limits.{Limits}
use Rattle.flow_rules.specs.declared.fault.Fault.{Fault}
use Rattle.flow_rules.specs.declared.fault.Cause.TheVariants as causes
use Rattle.flow_rules.specs.declared.spec.Attr.{Attr}
use Rattle.flow_rules.specs.declared.spec.RuleSpec.{RuleSpec}
use Rattle.flow_rules.specs.Changes.{has_id}
use Rattle.flow_rules.specs.Faults.{fault_if, first, first_fault, rule_of}
use Rattle.flow_rules.specs.RuleView.{RuleView}
use Rattle.flow_rules.specs.Shared.{Shared, shared_at, without_shared, with_shared}
use Rattle.flow_rules.proofs.SharedKept.{found-with}
use Rattle.flow_calls.specs.declared.call.Op.{Op}
use Rattle.flow_calls.specs.declared.call.Op.TheVariants as ops
use Rattle.flow_calls.specs.declared.call.RuleLists.{RuleLists}
use Rattle.object_ids.specs.Ids.{id_for}
use Rattle.indirect_counters.specs.declared.shared_action.SharedAction.{SharedAction}
use Rattle.indirect_counters.specs.Entries.{entry_at, in_effect_at}
use Rattle.indirect_counters.specs.Refusals as shared_calls
use Rattle.indirect_counters.proofs.Creating.{CanAdd-clear, IsSharedOn-created, update-clear}
use Rattle.indirect_counters.proofs.Unused.{least_unused-free}
use Rattle.template_tables.specs.Bound.{bound_by, bind_refusals}
use Rattle.template_tables.specs.Refusals.{pattern_refusals, actions_refusals, table_refusals, pattern_end_refusals, actions_end_refusals, table_end_refusals}
use Rattle.template_tables.specs.Slots.{slot_refusals}
use Rattle.template_tables.specs.TableView.{TableView}
use Rattle.template_tables.specs.TemplatesView.{table_of}
use Rattle.port_state.specs.declared.held.Held.{Held}
use Rattle.port_state.specs.declared.held.Held.TheVariants as held
use Rattle.port_state.specs.Apart.{is_rule, is_held_rule, is_held_shared, IsBelow, IsHeldBelow, IsFit, AreOthers, AreApart, IsAlone}
use Rattle.port_state.specs.Effect.{CanHold}
use Rattle.port_state.specs.Queue.{FlowQueue}
use Rattle.port_state.specs.State.{State, Placed, all_held, queue_at, queue_fault, full_fault, succeeds, stepped, pushed, pulled, waiting, enqueued, first_of, unless_refused, created, destroyed, flushed, isolated, shared_set, shared_gone, configured, configure_refusals, with_templates, objects, users_of, has_kind_of, is_table_rule_of, is_plain, is_in_effect, kinds_in, create_fault, templates_in, bound, bound_fault, table_rule_fault, ids_fault, creation_held, if_bound, next_state}
use Rattle.port_state.specs.Tables.{Templates, pattern_made, actions_made, table_made, pattern_gone, actions_gone, table_gone}
use Rattle.port_state.proofs.Objects.{any-count, judged-at, judged-used, object_of}
use Rattle.port_state.proofs.Waiting.{AreBehind, tried, behind-stepped, all-stepped, count-waiting, all-waiting, count-with_queue, all-with_queue, all-at, pushed-keeps, count_by-first, count_by-last, none-held, ops_in, first_of-none, there-queue, there-full, others-tried}

abbrev pub one_if : Bool → ℕ
one_if b = cond b 1 0

abbrev pub one_of : Option Action → ℕ
one_of o = cond (is_some o) 1 0

-- counted with some left out
pub count_by-filter : {A : Type 0} (test keep : A → Bool) (xs : List A) → count_by test (filter keep xs) ≤ count_by test xs
count_by-filter test keep [] = omega arith
count_by-filter test keep (x ∷ xs) = by (keep x) (count_by-filter test keep xs) (count_by-first test x xs) where
  by : (b : Bool) → count_by test (filter keep xs) ≤ count_by test xs → count_by test (x ∷ xs) ≡ cond (test x) 1 0 + count_by test xs
      → count_by test (cond b (x ∷ filter keep xs) (filter keep xs)) ≤ count_by test (x ∷ xs)
  by true behind split = omega (arith, behind, split, count_by-first test x (filter keep xs))
  by false behind split = omega (arith, behind, split)

-- where none passes, none is counted; and the other way round
pub none-counted : {A : Type 0} (P : A → Type 0) (test : A → Bool) → ((x : A) → P x → test x ≡ false) → (xs : List A) → All P xs → count_by test xs ≡ 0
none-counted P test fails [] all = refl
none-counted P test fails (x ∷ xs) all =
    omega (arith, count_by-first test x xs, ap one_if (fails x (All-head P x xs all)), none-counted P test fails xs (All-tail P x xs all))

-- one that passes is counted
pub some-counted : {A : Type 0} (stronger test : A → Bool) → ((x : A) → stronger x ≡ true → test x ≡ true) → (xs : List A) → list_any stronger xs ≡ true → 1 ≤ count_by test xs
some-counted stronger test follows [] any = cc
some-counted stronger test follows (x ∷ xs) any = by (stronger x) refl any (some-counted stronger test follows xs) where
  by : (b : Bool) → stronger x ≡ b → (b || list_any stronger xs) ≡ true → (list_any stronger xs ≡ true → 1 ≤ count_by test xs) → 1 ≤ count_by test (x ∷ xs)
  by true is any others = omega (arith, count_by-first test x xs, ap one_if (follows x is))
  by false is any others = omega (arith, count_by-first test x xs, others any)

-- what is judged of shared actions
pub in_effect-objects : (s : State) (id : ℕ) → in_effect_at id (objects s) ≡ option_map (object_of (users_of s id)) (shared_at id s.shared)
in_effect-objects s id = judged-at (users_of s) s.shared (all_held s) id

-- at a free id nothing is in effect, and no creation is held
pub free-objects : (s : State) (id : ℕ) → entry_at id (objects s) ≡ None → (shared_at id s.shared ≡ None) × (count_by (is_held_shared id) (all_held s) ≡ 0)
free-objects s id free =
    let unused = by (shared_at id s.shared) (list_any (is_held_shared id) (all_held s)) (sym (judged-used (users_of s) s.shared (all_held s) id) ∙ ap (λ (o : Option SharedAction). is_some o) free) in
    (unused.0, omega (arith, ltb-false 0 (count_by (is_held_shared id) (all_held s)) (any-count (is_held_shared id) (all_held s) ∙ unused.1))) where
      by : (o : Option Action) (waits : Bool) → (is_some o || waits) ≡ false → (o ≡ None) × (waits ≡ false)
      by None false none = (refl, refl)
      by None true none = cc
      by (Some value) waits none = cc

-- what may go is in effect, without users
pub record MayGo (s : State) (id : ℕ) : Type 0 where
  pub there : is_some (shared_at id s.shared) ≡ true
  pub unused : users_of s id ≡ 0

pub may-go : (s : State) (id : ℕ) → shared_calls.destroy_fault (objects s) id ≡ None → MayGo s id
may-go s id none = by (shared_at id s.shared) refl (sym (ap told (in_effect-objects s id)) ∙ none) where
  told : Option SharedAction → Option Fault
  told o = first (fault_if (is_none o) causes.NoObject 0 ++ fault_if (shared_calls.has_users o) causes.Busy 0)

  of-none : (busy : Bool) → nat_lt 0 (users_of s id) ≡ busy → first (fault_if busy causes.Busy 0) ≡ None → users_of s id ≡ 0
  of-none true is none = cc
  of-none false is none = omega (arith, ltb-false 0 (users_of s id) is)

  by : (o : Option Action) → shared_at id s.shared ≡ o → told (option_map (object_of (users_of s id)) o) ≡ None → MayGo s id
  by None is none = cc
  by (Some value) is none = record { there = ap (λ (o : Option Action). is_some o) is; unused = of-none (nat_lt 0 (users_of s id)) refl none }

-- what is updated is in effect
kind-there : (value : Action) (o : Option Action) → has_kind_of value o ≡ true → is_some o ≡ true
kind-there value None is = cc
kind-there value (Some old) is = refl

pub update-there : (s : State) (id : ℕ) (value : Action) → shared_calls.update_fault s.rxq (objects s) id value ≡ None → is_some (shared_at id s.shared) ≡ true
update-there s id value none = by (shared_at id s.shared) (subst IsSome (in_effect-objects s id) (update-clear s.rxq (objects s) id value none).there) where
  by : (o : Option Action) → IsSome (option_map (object_of (users_of s id)) o) → is_some o ≡ true
  by None there = cc
  by (Some old) there = refl

pub none-is : {A : Type 0} (o : Option A) → is_none o ≡ true → o ≡ None
none-is None is = refl
none-is (Some x) is = cc

-- the first operation stands alone where it succeeds
pub IsAlone-first : (s : State) (op : Held) (others : List Held) → AreBehind op others (all_held s) → AreApart s → succeeds s op ≡ true → IsAlone op others
IsAlone-first s (held.RuleCreated rule table) others behind apart is =
    omega (arith, apart.rules rule.id, behind (is_held_rule rule.id), ap one_if (eq-eqb rule.id rule.id refl))
IsAlone-first s (held.RuleDestroyed id) others behind apart is =
    omega (arith, apart.rules id, behind (is_held_rule id), some-counted (is_table_rule_of id) (is_rule id) (λ (r : Placed) both. (and_parts (has_id id r.rule) (not (is_plain r)) both).0) s.rules is)
IsAlone-first s (held.SharedCreated id value) others behind apart is =
    omega (arith, apart.shared id, behind (is_held_shared id), ap one_if (eq-eqb id id refl))
IsAlone-first s (held.SharedUpdated id value) others behind apart is =
    omega (arith, apart.shared id, behind (is_held_shared id), ap one_if (kind-there value (shared_at id s.shared) is))
IsAlone-first s (held.SharedDestroyed id) others behind apart is =
    omega (arith, apart.shared id, behind (is_held_shared id), ap one_if (may-go s id (none-is (shared_calls.destroy_fault (objects s) id) is)).there)

-- the facts by their parts
record Parted (rules : List Placed) (shared : Shared) (ids rxq : ℕ) (list : List Held) : Type 0 where
  pub others : AreOthers rules list
  pub alone : (id : ℕ) → cond (is_some (shared_at id shared)) 1 0 + count_by (is_held_shared id) list ≤ 1
  pub given : All (IsBelow ids) rules
  pub below : All (IsHeldBelow ids) list
  pub fit : All (IsFit rxq) list

whole : (s : State) → Parted s.rules s.shared s.ids s.rxq (all_held s) → AreApart s
whole s p = record { rules = p.others; shared = p.alone; given = p.given; below = p.below; fit = p.fit }

-- with fewer rules, fewer shared actions and fewer held operations
fewer : (s : State) (rules : List Placed) (shared : Shared) (list : List Held) → AreApart s → ((id : ℕ) → count_by (is_rule id) rules ≤ count_by (is_rule id) s.rules)
    → ((id : ℕ) → cond (is_some (shared_at id shared)) 1 0 ≤ cond (is_some (shared_at id s.shared)) 1 0) → ((test : Held → Bool) → count_by test list ≤ count_by test (all_held s))
    → All (IsBelow s.ids) rules → All (IsHeldBelow s.ids) list → All (IsFit s.rxq) list → Parted rules shared s.ids s.rxq list
fewer s rules shared list apart few_rules few_shared few given below fit = record {
  others = λ id. omega (arith, apart.rules id, few_rules id, few (is_held_rule id));
  alone = λ id. omega (arith, apart.shared id, few_shared id, few (is_held_shared id));
  given = given;
  below = below;
  fit = fit;
}

found-less : (id q : ℕ) (shared : Shared) → cond (is_some (shared_at q (without_shared id shared))) 1 0 ≤ cond (is_some (shared_at q shared)) 1 0
found-less id q [] = omega arith
found-less id q (e ∷ shared) = by (nat_eq id e.0) (found-less id q shared) where
  at-most : (b : Bool) → cond b 1 0 ≤ 1
  at-most true = omega arith
  at-most false = omega arith

  dropped : (here : Bool) → cond (is_some (shared_at q shared)) 1 0 ≤ cond (is_some (cond here (Some e.1) (shared_at q shared))) 1 0
  dropped true = at-most (is_some (shared_at q shared))
  dropped false = omega arith

  kept : (here : Bool) → cond (is_some (shared_at q (without_shared id shared))) 1 0 ≤ cond (is_some (shared_at q shared)) 1 0
      → cond (is_some (cond here (Some e.1) (shared_at q (without_shared id shared)))) 1 0 ≤ cond (is_some (cond here (Some e.1) (shared_at q shared))) 1 0
  kept true behind = omega arith
  kept false behind = behind

  by : (gone : Bool) → cond (is_some (shared_at q (without_shared id shared))) 1 0 ≤ cond (is_some (shared_at q shared)) 1 0
      → cond (is_some (shared_at q (cond gone shared (e ∷ without_shared id shared)))) 1 0 ≤ cond (is_some (cond (nat_eq q e.0) (Some e.1) (shared_at q shared))) 1 0
  by true behind = dropped (nat_eq q e.0)
  by false behind = kept (nat_eq q e.0) behind

-- a value that is put in at an id
found-set : (new id : ℕ) (value : Action) (shared : Shared) (P : ℕ → Type 0) → P (cond (is_some (cond (nat_eq id new) (Some value) (shared_at id shared))) 1 0)
    → P (cond (is_some (shared_at id (with_shared new value shared))) 1 0)
found-set new id value shared P p = subst (λ (o : Option Action). P (cond (is_some o) 1 0)) (sym (found-with new id value shared)) p

-- the operation at the head of a queue takes effect, or fails
tried-parted : (s : State) (op : Held) (list : List Held) → AreBehind op list (all_held s) → AreApart s → IsHeldBelow s.ids op → All (IsHeldBelow s.ids) list → All (IsFit s.rxq) list
    → Parted (tried s op).rules (tried s op).shared s.ids s.rxq list
tried-parted s (held.RuleCreated rule table) list behind apart here below fit = record {
  others = λ id. omega (arith, apart.rules id, behind (is_held_rule id), count_by-last (is_rule id) s.rules (record { rule = rule; table = Some table }));
  alone = λ id. omega (arith, apart.shared id, behind (is_held_shared id));
  given = All-push (IsBelow s.ids) s.rules (record { rule = rule; table = Some table }) apart.given here;
  below = below;
  fit = fit;
}
tried-parted s (held.RuleDestroyed id) list behind apart here below fit = by (list_any (is_table_rule_of id) s.rules) where
  keep : Placed → Bool
  keep r = not (has_id id r.rule)

  by : (b : Bool) → Parted (cond b (destroyed id s) s).rules (cond b (destroyed id s) s).shared s.ids s.rxq list
  by true =
      fewer s (filter keep s.rules) s.shared list apart (λ q. count_by-filter (is_rule q) keep s.rules) (λ q. omega arith) (λ test. omega (arith, behind test))
      (All-filter keep (IsBelow s.ids) s.rules apart.given) below fit
  by false = fewer s s.rules s.shared list apart (λ q. omega arith) (λ q. omega arith) (λ test. omega (arith, behind test)) apart.given below fit
tried-parted s (held.SharedCreated new value) list behind apart here below fit = record {
  others = λ id. omega (arith, apart.rules id, behind (is_held_rule id));
  alone = λ id. found-set new id value s.shared (λ n. n + count_by (is_held_shared id) list ≤ 1) (by id (nat_eq id new) (shared_at id s.shared) (behind (is_held_shared id)) (apart.shared id));
  given = apart.given;
  below = below;
  fit = fit;
} where
  by : (id : ℕ) (b : Bool) (o : Option Action) → count_by (is_held_shared id) list + cond b 1 0 ≡ count_by (is_held_shared id) (all_held s)
      → cond (is_some o) 1 0 + count_by (is_held_shared id) (all_held s) ≤ 1 → cond (is_some (cond b (Some value) o)) 1 0 + count_by (is_held_shared id) list ≤ 1
  by id true o more most = omega (arith, more, most)
  by id false o more most = omega (arith, more, most)
tried-parted s (held.SharedUpdated new value) list behind apart here below fit = by (has_kind_of value (shared_at new s.shared)) refl where
  same : (id : ℕ) (b : Bool) (o : Option Action) → (b ≡ true → is_some o ≡ true) → cond (is_some o) 1 0 + count_by (is_held_shared id) list ≤ 1
      → cond (is_some (cond b (Some value) o)) 1 0 + count_by (is_held_shared id) list ≤ 1
  same id true o there most = omega (arith, most, ap one_if (there refl))
  same id false o there most = most

  by : (b : Bool) → has_kind_of value (shared_at new s.shared) ≡ b → Parted (cond b (shared_set new value s) s).rules (cond b (shared_set new value s) s).shared s.ids s.rxq list
  by true is = record {
    others = λ id. omega (arith, apart.rules id, behind (is_held_rule id));
    alone = λ id. found-set new id value s.shared (λ n. n + count_by (is_held_shared id) list ≤ 1)
        (same id (nat_eq id new) (shared_at id s.shared) (λ eq. ap (λ k. is_some (shared_at k s.shared)) (eqb-true id new eq) ∙ kind-there value (shared_at new s.shared) is)
        (omega (arith, apart.shared id, behind (is_held_shared id))));
    given = apart.given;
    below = below;
    fit = fit;
  }
  by false is = fewer s s.rules s.shared list apart (λ q. omega arith) (λ q. omega arith) (λ test. omega (arith, behind test)) apart.given below fit
tried-parted s (held.SharedDestroyed new) list behind apart here below fit = by (is_none (shared_calls.destroy_fault (objects s) new)) where
  by : (b : Bool) → Parted (cond b (shared_gone new s) s).rules (cond b (shared_gone new s) s).shared s.ids s.rxq list
  by true = fewer s s.rules (without_shared new s.shared) list apart (λ q. omega arith) (λ q. found-less new q s.shared) (λ test. omega (arith, behind test)) apart.given below fit
  by false = fewer s s.rules s.shared list apart (λ q. omega arith) (λ q. omega arith) (λ test. omega (arith, behind test)) apart.given below fit

-- an operation takes effect
pub AreApart-stepped : (q : ℕ) (s : State) (op : Held) (ops : List Held) → (queue_at q s).held ≡ op ∷ ops → AreApart s → AreApart (stepped q s op)
AreApart-stepped q s op ops is apart =
    let below = all-stepped (IsHeldBelow s.ids) q s op ops is apart.below in
    let fit = all-stepped (IsFit s.rxq) q s op ops is apart.fit in
    whole (stepped q s op)
    (subst (λ (t : State). Parted (tried s op).rules (tried s op).shared t.ids t.rxq (all_held (stepped q s op))) (sym (others-tried s op))
    (tried-parted s op (all_held (stepped q s op)) (behind-stepped q s op ops is) apart below.0 below.1 fit.1))

pub AreApart-pushed : (q : ℕ) (s : State) → AreApart s → AreApart (pushed q s)
AreApart-pushed q s apart = pushed-keeps AreApart q (AreApart-stepped q) s apart

-- the id that is given next is that of no rule
not-below : (ids id : ℕ) → id < ids → nat_eq id ids ≡ false
not-below ids id below = ne_eqb id ids (λ same. omega (arith, below, same))

pub fresh-rules : (ids : ℕ) (rules : List Placed) → All (IsBelow ids) rules → count_by (is_rule ids) rules ≡ 0
fresh-rules ids rules all = none-counted (IsBelow ids) (is_rule ids) (λ (r : Placed) below. not-below ids r.rule.id below) rules all

pub fresh-held : (ids : ℕ) (list : List Held) → All (IsHeldBelow ids) list → count_by (is_held_rule ids) list ≡ 0
fresh-held ids list all = none-counted (IsHeldBelow ids) (is_held_rule ids) not-one list all where
  not-one : (op : Held) → IsHeldBelow ids op → is_held_rule ids op ≡ false
  not-one (held.RuleCreated rule table) below = not-below ids rule.id below
  not-one (held.RuleDestroyed id) below = refl
  not-one (held.SharedCreated id value) below = refl
  not-one (held.SharedUpdated id value) below = refl
  not-one (held.SharedDestroyed id) below = refl

IsBelow-more : (ids : ℕ) (rules : List Placed) → All (IsBelow ids) rules → All (IsBelow (ids + 1)) rules
IsBelow-more ids rules all = All-weaker (IsBelow ids) (IsBelow (ids + 1)) (λ (r : Placed) below. omega (arith, below)) rules all

IsHeldBelow-more : (ids : ℕ) (list : List Held) → All (IsHeldBelow ids) list → All (IsHeldBelow (ids + 1)) list
IsHeldBelow-more ids list all = All-weaker (IsHeldBelow ids) (IsHeldBelow (ids + 1)) weaker list all where
  weaker : (op : Held) → IsHeldBelow ids op → IsHeldBelow (ids + 1) op
  weaker (held.RuleCreated rule table) below = omega (arith, below)
  weaker (held.RuleDestroyed id) below = tt
  weaker (held.SharedCreated id value) below = tt
  weaker (held.SharedUpdated id value) below = tt
  weaker (held.SharedDestroyed id) below = tt

-- at an id where none of two kinds is counted there is room for one more
one-more : (a b : ℕ → ℕ) (new id : ℕ) (same : Bool) → (same ≡ true → new ≡ id) → a new ≡ 0 → b new ≡ 0 → a id + b id ≤ 1 → a id + b id + one_if same ≤ 1
one-more a b new id true is none none' most = omega (arith, subst (λ k. a k ≡ 0) (is refl) none, subst (λ k. b k ≡ 0) (is refl) none')
one-more a b new id false is none none' most = omega (arith, most)

one-rule : (s : State) (new id : ℕ) → new ≡ s.ids → AreApart s → count_by (is_rule id) s.rules + count_by (is_held_rule id) (all_held s) + one_if (nat_eq new id) ≤ 1
one-rule s new id is apart =
    one-more (λ k. count_by (is_rule k) s.rules) (λ k. count_by (is_held_rule k) (all_held s)) s.ids id (nat_eq new id) (λ same. sym is ∙ eqb-true new id same)
    (fresh-rules s.ids s.rules apart.given) (fresh-held s.ids (all_held s) apart.below) (apart.rules id)

-- an operation that comes to wait
pub AreApart-waiting : (q : ℕ) (op : Held) (s : State) → q < length s.queues → CanHold s op → AreApart s → AreApart (waiting q op s)
AreApart-waiting q (held.RuleCreated rule table) s there can apart = record {
  rules = λ id. omega (arith, one-rule s rule.id id can.0 apart, count-waiting (is_held_rule id) q (held.RuleCreated rule table) s there);
  shared = λ id. omega (arith, apart.shared id, count-waiting (is_held_shared id) q (held.RuleCreated rule table) s there);
  given = IsBelow-more s.ids s.rules apart.given;
  below = all-waiting (IsHeldBelow (s.ids + 1)) q (held.RuleCreated rule table) s (IsHeldBelow-more s.ids (all_held s) apart.below) (omega (arith, can.0));
  fit = all-waiting (IsFit s.rxq) q (held.RuleCreated rule table) s apart.fit tt;
}
AreApart-waiting q (held.RuleDestroyed rule) s there can apart = record {
  rules = λ id. omega (arith, apart.rules id, count-waiting (is_held_rule id) q (held.RuleDestroyed rule) s there);
  shared = λ id. omega (arith, apart.shared id, count-waiting (is_held_shared id) q (held.RuleDestroyed rule) s there);
  given = apart.given;
  below = all-waiting (IsHeldBelow s.ids) q (held.RuleDestroyed rule) s apart.below tt;
  fit = all-waiting (IsFit s.rxq) q (held.RuleDestroyed rule) s apart.fit tt;
}
AreApart-waiting q (held.SharedCreated new value) s there can apart = record {
  rules = λ id. omega (arith, apart.rules id, count-waiting (is_held_rule id) q (held.SharedCreated new value) s there);
  shared = λ id. omega (arith, room id, count-waiting (is_held_shared id) q (held.SharedCreated new value) s there);
  given = apart.given;
  below = all-waiting (IsHeldBelow s.ids) q (held.SharedCreated new value) s apart.below tt;
  fit = all-waiting (IsFit s.rxq) q (held.SharedCreated new value) s apart.fit can.1;
} where
  room : (id : ℕ) → cond (is_some (shared_at id s.shared)) 1 0 + count_by (is_held_shared id) (all_held s) + one_if (nat_eq id new) ≤ 1
  room id =
      let free = free-objects s new can.0.free in
      one-more (λ k. one_of (shared_at k s.shared)) (λ k. count_by (is_held_shared k) (all_held s)) new id (nat_eq id new) (λ same. sym (eqb-true id new same))
      (ap one_of free.0) free.1 (apart.shared id)
AreApart-waiting q (held.SharedUpdated new value) s there can apart = record {
  rules = λ id. omega (arith, apart.rules id, count-waiting (is_held_rule id) q (held.SharedUpdated new value) s there);
  shared = λ id. omega (arith, apart.shared id, count-waiting (is_held_shared id) q (held.SharedUpdated new value) s there);
  given = apart.given;
  below = all-waiting (IsHeldBelow s.ids) q (held.SharedUpdated new value) s apart.below tt;
  fit = all-waiting (IsFit s.rxq) q (held.SharedUpdated new value) s apart.fit can;
}
AreApart-waiting q (held.SharedDestroyed new) s there can apart = record {
  rules = λ id. omega (arith, apart.rules id, count-waiting (is_held_rule id) q (held.SharedDestroyed new) s there);
  shared = λ id. omega (arith, apart.shared id, count-waiting (is_held_shared id) q (held.SharedDestroyed new) s there);
  given = apart.given;
  below = all-waiting (IsHeldBelow s.ids) q (held.SharedDestroyed new) s apart.below tt;
  fit = all-waiting (IsFit s.rxq) q (held.SharedDestroyed new) s apart.fit tt;
}

pub AreApart-enqueued : (q : ℕ) (postpone : Bool) (op : Held) (s : State) → q < length s.queues → CanHold s op → AreApart s → AreApart (enqueued q postpone op s)
AreApart-enqueued q true op s there can apart = AreApart-waiting q op s there can apart
AreApart-enqueued q false op s there can apart = AreApart-pushed q (waiting q op s) (AreApart-waiting q op s there can apart)

-- the results that wait are removed
pub AreApart-pulled : (q : ℕ) (s : State) → q < length s.queues → AreApart s → AreApart (pulled q s)
AreApart-pulled q s there apart =
    let queue : FlowQueue = record { held = (queue_at q s).held; results = [] } in
    whole (pulled q s) (fewer s s.rules s.shared (all_held (pulled q s)) apart (λ id. omega arith) (λ id. omega arith) (λ test. omega (arith, count-with_queue test q queue s there)) apart.given
    (all-with_queue (IsHeldBelow s.ids) q queue s apart.below (all-at (IsHeldBelow s.ids) q s apart.below))
    (all-with_queue (IsFit s.rxq) q queue s apart.fit (all-at (IsFit s.rxq) q s apart.fit)))

-- empty queues hold nothing
pub AreApart-configured : (queues size : ℕ) (s : State) → AreApart s → AreApart (configured queues size s)
AreApart-configured queues size s apart =
    whole (configured queues size s) (subst (Parted s.rules s.shared s.ids s.rxq) (sym (none-held queues)) here-whole) where
      here-whole : Parted s.rules s.shared s.ids s.rxq []
      here-whole = fewer s s.rules s.shared [] apart (λ id. omega arith) (λ id. omega arith) (λ test. omega arith) apart.given (All-nil (IsHeldBelow s.ids)) (All-nil (IsFit s.rxq))

-- a rule takes effect with the next id
pub AreApart-created : (rule : RuleView) (s : State) → rule.id ≡ s.ids → AreApart s → AreApart (created rule s)
AreApart-created rule s is apart = record {
  rules = λ id. omega (arith, one-rule s rule.id id is apart, count_by-last (is_rule id) s.rules (record { rule = rule; table = None }));
  shared = apart.shared;
  given = All-push (IsBelow (s.ids + 1)) s.rules (record { rule = rule; table = None }) (IsBelow-more s.ids s.rules apart.given) (omega (arith, is));
  below = IsHeldBelow-more s.ids (all_held s) apart.below;
  fit = apart.fit;
}

-- rules go
pub AreApart-destroyed : (id : ℕ) (s : State) → AreApart s → AreApart (destroyed id s)
AreApart-destroyed id s apart =
    let keep : Placed → Bool = λ (r : Placed). not (has_id id r.rule) in
    whole (destroyed id s) (fewer s (filter keep s.rules) s.shared (all_held s) apart (λ q. count_by-filter (is_rule q) keep s.rules) (λ q. omega arith) (λ test. omega arith)
    (All-filter keep (IsBelow s.ids) s.rules apart.given) apart.below apart.fit)

pub AreApart-flushed : (s : State) → AreApart s → AreApart (flushed s)
AreApart-flushed s apart =
    whole (flushed s) (fewer s [] s.shared (all_held s) apart (λ q. omega arith) (λ q. omega arith) (λ test. omega arith) (All-nil (IsBelow s.ids)) apart.below apart.fit)

-- a shared action takes effect at a free id, or has another value
pub AreApart-set : (id : ℕ) (value : Action) (s : State) → (shared_at id s.shared ≡ None → count_by (is_held_shared id) (all_held s) ≡ 0) → AreApart s → AreApart (shared_set id value s)
AreApart-set new value s free apart = record {
  rules = apart.rules;
  shared = λ id. found-set new id value s.shared (λ n. n + count_by (is_held_shared id) (all_held s) ≤ 1) (by id (nat_eq id new) refl (shared_at id s.shared) refl (apart.shared id));
  given = apart.given;
  below = apart.below;
  fit = apart.fit;
} where
  by : (id : ℕ) (b : Bool) → nat_eq id new ≡ b → (o : Option Action) → shared_at id s.shared ≡ o → cond (is_some o) 1 0 + count_by (is_held_shared id) (all_held s) ≤ 1
      → cond (is_some (cond b (Some value) o)) 1 0 + count_by (is_held_shared id) (all_held s) ≤ 1
  by id true eq None is most =
      let same : new ≡ id = sym (eqb-true id new eq) in
      omega (arith, subst (λ k. count_by (is_held_shared k) (all_held s) ≡ 0) same (free (ap (λ k. shared_at k s.shared) same ∙ is)))
  by id true eq (Some old) is most = most
  by id false eq o is most = most

pub AreApart-gone : (id : ℕ) (s : State) → AreApart s → AreApart (shared_gone id s)
AreApart-gone id s apart =
    whole (shared_gone id s) (fewer s s.rules (without_shared id s.shared) (all_held s) apart (λ q. omega arith) (λ q. found-less id q s.shared) (λ test. omega arith) apart.given apart.below apart.fit)

same-parts : (s t : State) → t.rules ≡ s.rules → t.shared ≡ s.shared → t.ids ≡ s.ids → t.rxq ≡ s.rxq → t.queues ≡ s.queues → AreApart s → AreApart t
same-parts s t rules shared ids rxq queues apart = whole t
    (subst (λ r. Parted r t.shared t.ids t.rxq (all_held t)) (sym rules)
    (subst (λ r. Parted s.rules r t.ids t.rxq (all_held t)) (sym shared)
    (subst (λ r. Parted s.rules s.shared r t.rxq (all_held t)) (sym ids)
    (subst (λ r. Parted s.rules s.shared s.ids r (all_held t)) (sym rxq)
    (subst (λ (r : List FlowQueue). Parted s.rules s.shared s.ids s.rxq (ops_in r)) (sym queues)
    (record { others = apart.rules; alone = apart.shared; given = apart.given; below = apart.below; fit = apart.fit }))))))

pub AreApart-templates : (change : Templates → Templates) (s : State) → AreApart s → AreApart (with_templates change s)
AreApart-templates change s apart = same-parts s (with_templates change s) refl refl refl refl refl apart

pub AreApart-isolated : (on : Bool) (s : State) → AreApart s → AreApart (isolated on s)
AreApart-isolated on s apart = same-parts s (isolated on s) refl refl refl refl refl apart

-- what a call keeps where it is accepted, it keeps
pub unless-keeps : (P : State → Type 0) (fault : Option Fault) (done s : State) → (fault ≡ None → P done) → P s → P (unless_refused fault done s)
unless-keeps P None done s next p = next refl
unless-keeps P (Some fault) done s next p = p

pub if-keeps : (P : State → Type 0) (b : Bool) (done s : State) → P done → P s → P (cond b done s)
if-keeps P true done s next p = next
if-keeps P false done s next p = p

-- without a fault an operation can be held
pub CanHold-bound : (limits : Limits) (s : State) (table pt act : ℕ) (lists : RuleLists) (spec : RuleSpec) → bound s table pt act lists ≡ Some spec
    → table_rule_fault limits s table pt act lists ≡ None → CanHold s (creation_held s table spec)
CanHold-bound limits s table pt act lists spec is none =
    let binding = first (bind_refusals (templates_in s) table pt act lists.pattern lists.actions) in
    let here = (first_of-none binding (bound_fault limits s table (bound s table pt act lists)) none).1 in
    let parts = first_of-none (first_fault limits (kinds_in s) spec) (first_of (first (slot_refusals (table_of table (templates_in s)))) (ids_fault s)) (sym (ap (bound_fault limits s table) is) ∙ here) in
    let last = first_of-none (first (slot_refusals (table_of table (templates_in s)))) (ids_fault s) parts.1 in
    (refl, ids-left (nat_le (2 ^ 32 - 1) s.ids) refl last.1, there (table_of table (templates_in s)) is, last.0) where
      ids-left : (b : Bool) → nat_le (2 ^ 32 - 1) s.ids ≡ b → cond {A = Option Fault} b (Some (record { cause = causes.TooMany; at = 0 })) None ≡ None → s.ids < 2 ^ 32 - 1
      ids-left true eq e = cc
      ids-left false eq e = leb-false (2 ^ 32 - 1) s.ids eq

      there : (o : Option TableView) → bound_by (templates_in s) o pt act lists.pattern lists.actions ≡ Some spec → IsSome o
      there None e = cc
      there (Some t) e = refl

pub CanHold-shared : (s : State) (id : Option ℕ) (attr : Attr) (action : Action) → shared_calls.create_fault s.rxq (objects s) id attr action ≡ None
    → CanHold s (held.SharedCreated (id_for id (objects s)) action)
CanHold-shared s id attr action none =
    (CanAdd-clear s.rxq (objects s) id attr action (least_unused-free (objects s)) none, IsSharedOn-created s.rxq (objects s) id attr action none)

AreApart-bound : (limits : Limits) (s : State) (q : ℕ) (postpone : Bool) (table pt act : ℕ) (lists : RuleLists) → q < length s.queues → table_rule_fault limits s table pt act lists ≡ None
    → AreApart s → AreApart (if_bound (bound s table pt act lists) (λ spec. enqueued q postpone (creation_held s table spec) s) s)
AreApart-bound limits s q postpone table pt act lists there none apart = by (bound s table pt act lists) refl where
  by : (o : Option RuleSpec) → bound s table pt act lists ≡ o → AreApart (if_bound o (λ spec. enqueued q postpone (creation_held s table spec) s) s)
  by None is = apart
  by (Some spec) is = AreApart-enqueued q postpone (creation_held s table spec) s there (CanHold-bound limits s table pt act lists spec is none) apart

-- whatever is called
pub AreApart-next : (limits : Limits) (s : State) (op : Op) → AreApart s → AreApart (next_state limits s op)
AreApart-next limits s (ops.Validate spec) a = a
AreApart-next limits s (ops.Create spec) a =
    unless-keeps AreApart (create_fault limits s spec) (created (rule_of s.ids spec) s) s (λ none. AreApart-created (rule_of s.ids spec) s refl a) a
AreApart-next limits s (ops.Destroy id) a = if-keeps AreApart (is_in_effect id s) (destroyed id s) s (AreApart-destroyed id s a) a
AreApart-next limits s ops.Flush a = AreApart-flushed s a
AreApart-next limits s (ops.Query id) a = a
AreApart-next limits s ops.List a = a
AreApart-next limits s (ops.Isolate on) a = AreApart-isolated on s a
AreApart-next limits s (ops.IndirectCreate id attr action) a =
    unless-keeps AreApart (shared_calls.create_fault s.rxq (objects s) id attr action) (shared_set (id_for id (objects s)) action s) s
    (λ none. AreApart-set (id_for id (objects s)) action s (λ _. (free-objects s (id_for id (objects s)) (CanHold-shared s id attr action none).0.free).1) a) a
AreApart-next limits s (ops.IndirectUpdate id action) a =
    unless-keeps AreApart (shared_calls.update_fault s.rxq (objects s) id action) (shared_set id action s) s
    (λ none. AreApart-set id action s (λ gone. absurd (true≢false (sym (update-there s id action none) ∙ ap (λ (o : Option Action). is_some o) gone))) a) a
AreApart-next limits s (ops.IndirectDestroy id) a = unless-keeps AreApart (shared_calls.destroy_fault (objects s) id) (shared_gone id s) s (λ none. AreApart-gone id s a) a
AreApart-next limits s (ops.IndirectQuery id) a = a
AreApart-next limits s (ops.PatternTemplateCreate id attr pattern) a =
    unless-keeps AreApart (first (pattern_refusals (templates_in s) id attr pattern)) (with_templates (pattern_made id pattern) s) s (λ none. AreApart-templates (pattern_made id pattern) s a) a
AreApart-next limits s (ops.PatternTemplateDestroy id) a =
    unless-keeps AreApart (first (pattern_end_refusals (templates_in s) id)) (with_templates (pattern_gone id) s) s (λ none. AreApart-templates (pattern_gone id) s a) a
AreApart-next limits s (ops.ActionsTemplateCreate id attr lists) a =
    unless-keeps AreApart (first (actions_refusals (templates_in s) id attr lists.actions lists.masks)) (with_templates (actions_made id lists.actions lists.masks) s) s
    (λ none. AreApart-templates (actions_made id lists.actions lists.masks) s a) a
AreApart-next limits s (ops.ActionsTemplateDestroy id) a =
    unless-keeps AreApart (first (actions_end_refusals (templates_in s) id)) (with_templates (actions_gone id) s) s (λ none. AreApart-templates (actions_gone id) s a) a
AreApart-next limits s (ops.TableCreate id attr rules_number templates) a =
    let change = table_made id (record { attr = attr; patterns = templates.patterns.items; actions = templates.actions.items; rules_number = rules_number }) in
    unless-keeps AreApart (first (table_refusals (templates_in s) id attr rules_number templates.patterns.items templates.actions.items)) (with_templates change s) s
    (λ none. AreApart-templates change s a) a
AreApart-next limits s (ops.TableDestroy id) a =
    unless-keeps AreApart (first (table_end_refusals (templates_in s) id)) (with_templates (table_gone id) s) s (λ none. AreApart-templates (table_gone id) s a) a
AreApart-next limits s (ops.Configure queues size) a =
    unless-keeps AreApart (first (configure_refusals s queues size)) (configured queues size s) s (λ none. AreApart-configured queues size s a) a
AreApart-next limits s (ops.QueueCreate q postpone table pt act lists) a =
    unless-keeps AreApart (first_of (full_fault s q) (table_rule_fault limits s table pt act lists))
    (if_bound (bound s table pt act lists) (λ spec. enqueued q postpone (creation_held s table spec) s) s) s
    (λ none. let parts = first_of-none (full_fault s q) (table_rule_fault limits s table pt act lists) none in
    AreApart-bound limits s q postpone table pt act lists (there-full s q parts.0) parts.1 a) a
AreApart-next limits s (ops.QueueDestroy q postpone rule) a =
    unless-keeps AreApart (full_fault s q) (enqueued q postpone (held.RuleDestroyed rule) s) s
    (λ none. AreApart-enqueued q postpone (held.RuleDestroyed rule) s (there-full s q none) tt a) a
AreApart-next limits s (ops.QueueIndirectCreate q postpone id attr action) a =
    let op = held.SharedCreated (id_for id (objects s)) action in
    unless-keeps AreApart (first_of (full_fault s q) (shared_calls.create_fault s.rxq (objects s) id attr action)) (enqueued q postpone op s) s
    (λ none. let parts = first_of-none (full_fault s q) (shared_calls.create_fault s.rxq (objects s) id attr action) none in
    AreApart-enqueued q postpone op s (there-full s q parts.0) (CanHold-shared s id attr action parts.1) a) a
AreApart-next limits s (ops.QueueIndirectUpdate q postpone id action) a =
    unless-keeps AreApart (first_of (full_fault s q) (shared_calls.queued_update_fault s.rxq action)) (enqueued q postpone (held.SharedUpdated id action) s) s
    (λ none. let parts = first_of-none (full_fault s q) (shared_calls.queued_update_fault s.rxq action) none in
    AreApart-enqueued q postpone (held.SharedUpdated id action) s (there-full s q parts.0) parts.1 a) a
AreApart-next limits s (ops.QueueIndirectDestroy q postpone id) a =
    unless-keeps AreApart (full_fault s q) (enqueued q postpone (held.SharedDestroyed id) s) s
    (λ none. AreApart-enqueued q postpone (held.SharedDestroyed id) s (there-full s q none) tt a) a
AreApart-next limits s (ops.Push q) a = unless-keeps AreApart (queue_fault s q) (pushed q s) s (λ none. AreApart-pushed q s a) a
AreApart-next limits s (ops.Pull q) a = unless-keeps AreApart (queue_fault s q) (pulled q s) s (λ none. AreApart-pulled q s (there-queue s q none) a) a
AreApart-next limits s (ops.Start _) a = a
AreApart-next limits s ops.Stop a = a
AreApart-next limits s ops.Quit a = a
AreApart-next limits s (ops.Bad _) a = a
