-- What may be in effect stays so with each change that may come.
use Rattle.std.proofs.Common.{◌≡◌, ℕ, ◌+◌, ◌≤◌, Bool, true, false, cond, not, filter, nat_eq, List, [], ◌∷◌, length, slice_index_or, Option, None, Some, refl, sym, ap, ◌∙◌, subst, true≢false, zero-add, arith}
use Rattle.std.specs.List.{All, list_any, count_by}
use Rattle.std.specs.Option.{option_map, is_none}
use Rattle.std.proofs.lemmas.Bool.{eqb-true, ne_eqb, or_parts}
use Rattle.std.proofs.lemmas.List.{length-append}
use Rattle.std.proofs.lemmas.List.Sums.{sum_by-append, length-filter, count_by-le-length}
use Rattle.std.proofs.lemmas.List.Elements.{All-nil, All-cons, All-head, All-tail, All-push, All-filter}
use Rattle.flow_actions.specs.declared.action.Action.{Action}
use Rattle.flow_actions.specs.declared.action.Action.TheVariants as actions
use Rattle.flow_actions.specs.Kinds.{kind_of}
use Rattle.flow_rules.specs.declared.change.Change.{Change}
use Rattle.flow_rules.specs.declared.change.Change.TheVariants as changes
use Rattle.flow_rules.specs.Changes.{has_id, changed}
use Rattle.flow_rules.specs.Faults.{Kinds, is_unknown, is_fate_in, is_fate_if, is_shared, kind_in}
use Rattle.flow_rules.specs.OnPort.{IsFor}
use Rattle.flow_rules.specs.RuleView.{RuleView}
use Rattle.flow_rules.specs.Shared.{Shared, shared_at, with_shared, without_shared, IsSharedOn, AreSharedOn}
use Rattle.flow_rules.specs.Valid.{IsValidRule}
use Rattle.flow_rules.specs.Walk.{Flows}
use Rattle.flow_rules.specs.Lawful.{kinds_in, NamesShared, HasOneFate, MayBeInEffect, IsOfItsKind, MayCome}
use Rattle.flow_rules.proofs.SharedKept.{AreSharedOn-with, AreSharedOn-without, found-with, found-without}

-- an action is unknown where it comes to no kind
unknown-is : (known : Kinds) (action : Action) → is_unknown known action ≡ is_none (kind_in known action)
unknown-is known actions.Void = refl
unknown-is known (actions.Queue queue) = refl
unknown-is known actions.Drop = refl
unknown-is known (actions.Jump to) = refl
unknown-is known (actions.Rss rss) = refl
unknown-is known (actions.Mark mark) = refl
unknown-is known actions.Count = refl
unknown-is known (actions.Indirect id) = refl
unknown-is known (actions.Set edit) = refl

-- the rule's actions come to the same kinds
abbrev AlikeIn : Shared → Shared → RuleView → Type 0
AlikeIn old new rule = All (λ action. kind_in (kinds_in new) action ≡ kind_in (kinds_in old) action) rule.actions

named-kept : (old new : Shared) (rule : RuleView) → AlikeIn old new rule → NamesShared old rule → NamesShared new rule
named-kept old new rule same named = λ k d within.
    let action = slice_index_or rule.actions k d in
    unknown-is (kinds_in new) action ∙ ap is_none (same k d within) ∙ sym (unknown-is (kinds_in old) action) ∙ named k d within

count-cons : (test : Action → Bool) (action : Action) (list : List Action) → count_by test (action ∷ list) ≡ cond (test action) 1 0 + count_by test list
count-cons test action list = sum_by-append (λ a. cond (test a) 1 0) (action ∷ []) list ∙ ap (λ n. n + count_by test list) (zero-add (cond (test action) 1 0))

same-count : (old new : Kinds) (list : List Action) → All (λ action. kind_in new action ≡ kind_in old action) list → count_by (is_fate_in new) list ≡ count_by (is_fate_in old) list
same-count old new [] same = refl
same-count old new (action ∷ list) same =
    let P : Action → Type 0 = λ a. kind_in new a ≡ kind_in old a in
    count-cons (is_fate_in new) action list
    ∙ ap (λ n. cond (is_fate_in new action) 1 0 + n) (same-count old new list (All-tail P action list same))
    ∙ ap (λ b. cond b 1 0 + count_by (is_fate_in old) list) (ap is_fate_if (All-head P action list same))
    ∙ sym (count-cons (is_fate_in old) action list)

one_fate-kept : (old new : Shared) (rule : RuleView) → AlikeIn old new rule → HasOneFate old rule → HasOneFate new rule
one_fate-kept old new rule same one = subst (λ n. n ≤ 1) (sym (same-count (kinds_in old) (kinds_in new) rule.actions same)) one

-- shared values and rules that are as before but for the values, where all rules' actions come to the same kinds
with-values : (rxq : ℕ) (flows : Flows) (new : Shared) → MayBeInEffect rxq flows → AreSharedOn rxq new → All (AlikeIn flows.shared new) flows.rules
    → MayBeInEffect rxq (record flows { shared = new })
with-values rxq flows new may values same = record {
  valid = may.valid;
  on_port = may.on_port;
  values = values;
  named = λ k d within. named-kept flows.shared new (slice_index_or flows.rules k d) (same k d within) (may.named k d within);
  one_fate = λ k d within. one_fate-kept flows.shared new (slice_index_or flows.rules k d) (same k d within) (may.one_fate k d within);
  few = may.few;
}

-- where a value comes in the place of one of its kind, an action that came to a kind comes to the same
alike-set : (id : ℕ) (value : Action) (old new : Shared) → IsOfItsKind (shared_at id old) value → ((q : ℕ) → shared_at q new ≡ cond (nat_eq q id) (Some value) (shared_at q old))
    → (action : Action) → is_unknown (kinds_in old) action ≡ false → kind_in (kinds_in new) action ≡ kind_in (kinds_in old) action
alike-set id value old new kind found actions.Void known = refl
alike-set id value old new kind found (actions.Queue queue) known = refl
alike-set id value old new kind found actions.Drop known = refl
alike-set id value old new kind found (actions.Jump to) known = refl
alike-set id value old new kind found (actions.Rss rss) known = refl
alike-set id value old new kind found (actions.Mark mark) known = refl
alike-set id value old new kind found actions.Count known = refl
alike-set id value old new kind found (actions.Indirect q) known = ap (option_map kind_of) (found q) ∙ by (nat_eq q id) refl where
  same-kind : (there : Option Action) → is_none (option_map kind_of there) ≡ false → IsOfItsKind there value → option_map kind_of (Some value) ≡ option_map kind_of there
  same-kind None e k = cc
  same-kind (Some a) e k = ap (λ kind. Some kind) (sym k)

  by : (b : Bool) → nat_eq q id ≡ b → option_map kind_of (cond b (Some value) (shared_at q old)) ≡ option_map kind_of (shared_at q old)
  by true e = same-kind (shared_at q old) known (subst (λ n. IsOfItsKind (shared_at n old) value) (sym (eqb-true q id e)) kind)
  by false e = refl
alike-set id value old new kind found (actions.Set edit) known = refl

may-set : (rxq id : ℕ) (value : Action) (flows : Flows) → MayBeInEffect rxq flows → IsSharedOn rxq value → IsOfItsKind (shared_at id flows.shared) value
    → MayBeInEffect rxq (record flows { shared = with_shared id value flows.shared })
may-set rxq id value flows may on kind =
    with-values rxq flows (with_shared id value flows.shared) may (AreSharedOn-with rxq id value flows.shared on may.values)
    (λ k d within i a inside. alike-set id value flows.shared (with_shared id value flows.shared) kind (λ q. found-with id q value flows.shared)
    (slice_index_or (slice_index_or flows.rules k d).actions i a) (may.named k d within i a inside))

-- a value that no action of these names may go
alike-removed : (id : ℕ) (old : Shared) (action : Action) → is_shared id action ≡ false → kind_in (kinds_in (without_shared id old)) action ≡ kind_in (kinds_in old) action
alike-removed id old actions.Void other = refl
alike-removed id old (actions.Queue queue) other = refl
alike-removed id old actions.Drop other = refl
alike-removed id old (actions.Jump to) other = refl
alike-removed id old (actions.Rss rss) other = refl
alike-removed id old (actions.Mark mark) other = refl
alike-removed id old actions.Count other = refl
alike-removed id old (actions.Indirect q) other = ap (option_map kind_of) (found-without id q old other)
alike-removed id old (actions.Set edit) other = refl

unnamed-alike : (id : ℕ) (old : Shared) (list : List Action) → list_any (is_shared id) list ≡ false
    → All (λ action. kind_in (kinds_in (without_shared id old)) action ≡ kind_in (kinds_in old) action) list
unnamed-alike id old [] none = All-nil (λ action. kind_in (kinds_in (without_shared id old)) action ≡ kind_in (kinds_in old) action)
unnamed-alike id old (action ∷ list) none =
    let parts = or_parts (is_shared id action) (list_any (is_shared id) list) none in
    All-cons (λ a. kind_in (kinds_in (without_shared id old)) a ≡ kind_in (kinds_in old) a) action list (alike-removed id old action parts.0) (unnamed-alike id old list parts.1)

few-without : (test : RuleView → Bool) (rules : List RuleView) → length (filter test rules) ≤ length rules
few-without test rules = subst (λ n. n ≤ length rules) (sym (length-filter test rules)) (count_by-le-length test rules)

pub may-behind : (rxq : ℕ) (flows : Flows) (change : Change) → MayBeInEffect rxq flows → MayCome rxq flows change → MayBeInEffect rxq (changed flows change)
may-behind rxq flows (changes.Added rule) may come = record {
  valid = All-push IsValidRule flows.rules rule may.valid come.valid;
  on_port = All-push (IsFor rxq) flows.rules rule may.on_port come.on_port;
  values = may.values;
  named = All-push (NamesShared flows.shared) flows.rules rule may.named come.named;
  one_fate = All-push (HasOneFate flows.shared) flows.rules rule may.one_fate come.one_fate;
  few = omega (arith, length-append flows.rules (rule ∷ []), come.room);
}
may-behind rxq flows (changes.Removed id) may come =
    let others : RuleView → Bool = λ (rule : RuleView). not (has_id id rule) in
    record {
      valid = All-filter others IsValidRule flows.rules may.valid;
      on_port = All-filter others (IsFor rxq) flows.rules may.on_port;
      values = may.values;
      named = All-filter others (NamesShared flows.shared) flows.rules may.named;
      one_fate = All-filter others (HasOneFate flows.shared) flows.rules may.one_fate;
      few = omega (arith, few-without others flows.rules, may.few);
    }
may-behind rxq flows changes.Flushed may come = record {
  valid = All-nil IsValidRule;
  on_port = All-nil (IsFor rxq);
  values = may.values;
  named = All-nil (NamesShared flows.shared);
  one_fate = All-nil (HasOneFate flows.shared);
  few = omega arith;
}
may-behind rxq flows (changes.IndirectSet id value) may come = may-set rxq id value flows may come.0 come.1
may-behind rxq flows (changes.IndirectGone id) may come =
    with-values rxq flows (without_shared id flows.shared) may (AreSharedOn-without rxq id flows.shared may.values)
    (λ k d within. unnamed-alike id flows.shared (slice_index_or flows.rules k d).actions (come k d within))
may-behind rxq flows (changes.Isolated on) may come = record {
  valid = may.valid;
  on_port = may.on_port;
  values = may.values;
  named = may.named;
  one_fate = may.one_fate;
  few = may.few;
}
