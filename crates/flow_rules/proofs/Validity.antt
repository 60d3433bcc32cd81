-- A rule without a fault is valid.
use Rattle.std.proofs.Common.{◌≡◌, ℕ, ◌+◌, ◌^◌, ◌<◌, ◌≤◌, length, Bool, true, false, cond, ◌&&◌, ◌||◌, nat_lt, nat_le, map, List, [], ◌∷◌, ◌++◌, None, Some, refl, sym, ap, ◌∙◌, subst, arith, zero-add}
use Rattle.std.specs.List.{All, count_by}
use Rattle.std.proofs.lemmas.List.Elements.{All-cons, All-nil}
use Rattle.std.proofs.lemmas.List.Sums.{sum_by-append}
use Rattle.std.proofs.lemmas.List.Folds.{list_any-append}
use Rattle.std.proofs.lemmas.Bool.{or_parts, leb-false, ltb-false}
use Rattle.std.specs.List.{list_any}
use Rattle.packet_headers.specs.declared.edits.Edit.{Edit}
use Rattle.packet_headers.specs.declared.edits.Edit.TheVariants as edits
use Rattle.header_edit.specs.Field.{IsLawful}
use Rattle.pattern_items.specs.declared.pattern.Item.{Item}
use Rattle.flow_actions.specs.declared.action.Action.{Action}
use Rattle.flow_actions.specs.declared.action.Action.TheVariants as actions
use Rattle.flow_rules.specs.declared.spec.Attr.{Attr}
use Rattle.flow_rules.specs.declared.fault.Fault.{Fault}
use Rattle.flow_rules.specs.declared.fault.Cause.{Cause}
use Rattle.flow_rules.specs.declared.fault.Cause.TheVariants as causes
use Rattle.flow_rules.specs.Faults.{Kinds, first, is_too_wide, lacks_item, is_unknown, is_fate_in, is_named_before, fault_if, attr_faults, direction_faults, item_fault, is_bad, action_faults, first_fault, rule_of}
use Rattle.flow_rules.specs.declared.limits.Limits.{Limits}
use Rattle.flow_rules.specs.declared.spec.RuleSpec.{RuleSpec}
use Rattle.pattern_items.specs.Faults.{faults_of}
use Rattle.flow_rules.specs.Lawful.{kinds_in, MayTakeEffect}
use Rattle.flow_rules.specs.Walk.{Flows}
use Rattle.flow_rules.specs.Valid.{IsGood, IsValid, IsOnPort, has_fate}

pub first_here : (xs ys : List Fault) (fault : Fault) → first xs ≡ Some fault → first (xs ++ ys) ≡ Some fault
first_here [] ys fault e = cc
first_here (x ∷ xs) ys fault e = e

first-left : (xs ys : List Fault) → first (xs ++ ys) ≡ None → first xs ≡ None
first-left [] ys e = refl
first-left (x ∷ xs) ys e = e

first-right : (xs ys : List Fault) → first (xs ++ ys) ≡ None → first ys ≡ None
first-right [] ys e = e
first-right (x ∷ xs) ys e = cc

first-if : (b : Bool) (cause : Cause) (place : ℕ) → first (fault_if b cause place) ≡ None → b ≡ false
first-if true cause place e = cc
first-if false cause place e = refl

-- queues of which none is too great
below : (rxq : ℕ) (queues : List ℕ) → list_any (nat_le rxq) queues ≡ false → All (λ queue. queue < rxq) queues
below rxq [] fine = All-nil (λ queue. queue < rxq)
below rxq (queue ∷ queues) fine =
    let parts = or_parts (nat_le rxq queue) (list_any (nat_le rxq) queues) fine in
    All-cons (λ q. q < rxq) queue queues (leb-false rxq queue parts.0) (below rxq queues parts.1)

lawful : (edit : Edit) → is_too_wide edit ≡ false → IsLawful edit
lawful (edits.MacSrc n) fine = leb-false (2 ^ 48) n fine
lawful (edits.MacDst n) fine = leb-false (2 ^ 48) n fine
lawful (edits.Ipv4Src n) fine = tt
lawful (edits.Ipv4Dst n) fine = tt
lawful (edits.Ipv6Src n) fine = tt
lawful (edits.Ipv6Dst n) fine = tt
lawful (edits.PortSrc n) fine = tt
lawful (edits.PortDst n) fine = tt
lawful edits.DecTtl fine = tt
lawful (edits.SetTtl n) fine = tt
lawful (edits.SetVid n) fine = omega (arith, ltb-false 4095 n fine)

good : (rxq group : ℕ) (action : Action) → rxq ≤ 256 → is_bad rxq group action ≡ false → IsGood group action
good rxq group actions.Void most fine = tt
good rxq group (actions.Queue queue) most fine = omega (arith, leb-false rxq queue fine)
good rxq group actions.Drop most fine = tt
good rxq group (actions.Jump to) most fine =
    let parts = or_parts (nat_lt 15 to) (nat_le to group) fine in
    (leb-false to group parts.1, ltb-false 15 to parts.0)
good rxq group (actions.Rss rss) most fine = λ k d within. omega (arith, most, below rxq rss.queues.items fine k d within)
good rxq group (actions.Mark mark) most fine = tt
good rxq group actions.Count most fine = tt
good rxq group (actions.Indirect id) most fine = tt
good rxq group (actions.Set edit) most fine = lawful edit fine

-- the parts of the faults behind the first action
record Clear (rxq : ℕ) (known : Kinds) (pattern : List Item) (group place : ℕ) (before : List Action) (action : Action) (list : List Action) : Type 0 where
  known_one : is_unknown known action ≡ false
  value : is_bad rxq group action ≡ false
  fate : (is_fate_in known action && list_any (is_fate_in known) before) ≡ false
  others : first (action_faults rxq known pattern group (place + 1) (before ++ action ∷ []) list) ≡ None

clear : (rxq : ℕ) (known : Kinds) (pattern : List Item) (group place : ℕ) (before : List Action) (action : Action) (list : List Action)
    → first (action_faults rxq known pattern group place before (action ∷ list)) ≡ None → Clear rxq known pattern group place before action list
clear rxq known pattern group place before action list none =
    let unknown = fault_if (is_unknown known action) causes.NoIndirect place in
    let bad = fault_if (is_bad rxq group action) causes.ActionConf place in
    let needs = fault_if (lacks_item pattern action) causes.ItemNeeded place in
    let second = fault_if (is_fate_in known action && list_any (is_fate_in known) before) causes.SecondFate place in
    let named = fault_if (is_named_before before action) causes.SecondCount place in
    let rest = action_faults rxq known pattern group (place + 1) (before ++ action ∷ []) list in
    let here = unknown ++ (bad ++ (needs ++ (second ++ named))) in
    let from_bad = first-right unknown (bad ++ (needs ++ (second ++ named))) (first-left here rest none) in
    let from_second = first-right needs (second ++ named) (first-right bad (needs ++ (second ++ named)) from_bad) in
    record {
      known_one = first-if (is_unknown known action) causes.NoIndirect place (first-left unknown (bad ++ (needs ++ (second ++ named))) (first-left here rest none));
      value = first-if (is_bad rxq group action) causes.ActionConf place (first-left bad (needs ++ (second ++ named)) from_bad);
      fate = first-if (is_fate_in known action && list_any (is_fate_in known) before) causes.SecondFate place (first-left second named from_second);
      others = first-right here rest none;
    }

pub values : (rxq : ℕ) (known : Kinds) (pattern : List Item) (group place : ℕ) (before list : List Action) → rxq ≤ 256
    → first (action_faults rxq known pattern group place before list) ≡ None → All (IsGood group) list
values rxq known pattern group place before [] most none = All-nil (IsGood group)
values rxq known pattern group place before (action ∷ list) most none =
    let c = clear rxq known pattern group place before action list none in
    All-cons (IsGood group) action list (good rxq group action most c.value) (values rxq known pattern group (place + 1) (before ++ action ∷ []) list most c.others)

-- an action that is a fate by its own kind counts as one
own_counts : (known : Kinds) (action : Action) → has_fate action ≡ true → is_fate_in known action ≡ true
own_counts known actions.Void own = own
own_counts known (actions.Queue queue) own = own
own_counts known actions.Drop own = own
own_counts known (actions.Jump to) own = own
own_counts known (actions.Rss rss) own = own
own_counts known (actions.Mark mark) own = own
own_counts known actions.Count own = own
own_counts known (actions.Indirect id) own = cc
own_counts known (actions.Set edit) own = own

or_nothing : (b : Bool) → (b || false) ≡ b
or_nothing true = refl
or_nothing false = refl

false-not-true : false ≡ true → ⊥
false-not-true e = cc

-- of actions that count as fates there is one, and a fate that stands before them counts too
one_of : (rxq : ℕ) (known : Kinds) (counts : Action → Bool) → ((action : Action) → counts action ≡ true → is_fate_in known action ≡ true)
    → (pattern : List Item) (group place : ℕ) (before list : List Action) → first (action_faults rxq known pattern group place before list) ≡ None
    → count_by counts list + cond (list_any (is_fate_in known) before) 1 0 ≤ 1
one_of rxq known counts are pattern group place before [] none = at_most (list_any (is_fate_in known) before) where
  at_most : (fated : Bool) → 0 + cond fated 1 0 ≤ 1
  at_most true = omega arith
  at_most false = omega arith
one_of rxq known counts are pattern group place before (action ∷ list) none =
    let c = clear rxq known pattern group place before action list none in
    let fated = list_any (is_fate_in known) before in
    let split : count_by counts (action ∷ list) ≡ cond (counts action) 1 0 + count_by counts list =
    sum_by-append (λ a. cond (counts a) 1 0) (action ∷ []) list ∙ ap (λ n. n + count_by counts list) (zero-add (cond (counts action) 1 0)) in
    let with_this : list_any (is_fate_in known) (before ++ action ∷ []) ≡ (fated || is_fate_in known action) =
    list_any-append (is_fate_in known) before (action ∷ []) ∙ ap (λ b. fated || b) (or_nothing (is_fate_in known action)) in
    subst (λ n. n + cond fated 1 0 ≤ 1) (sym split)
    (step fated (is_fate_in known action) (counts action) (count_by counts list) (are action) c.fate
    (subst (λ b. count_by counts list + cond b 1 0 ≤ 1) with_this (one_of rxq known counts are pattern group (place + 1) (before ++ action ∷ []) list c.others))) where
      step : (fated here own : Bool) (n : ℕ) → (own ≡ true → here ≡ true) → (here && fated) ≡ false → n + cond (fated || here) 1 0 ≤ 1 → (cond own 1 0 + n) + cond fated 1 0 ≤ 1
      step true true own n counts fine most = cc
      step true false true n counts fine most = absurd (false-not-true (counts refl))
      step true false false n counts fine most = omega (arith, most)
      step false true true n counts fine most = omega (arith, most)
      step false true false n counts fine most = omega (arith, most)
      step false false true n counts fine most = absurd (false-not-true (counts refl))
      step false false false n counts fine most = omega (arith, most)

pub one_fate : (rxq : ℕ) (known : Kinds) (pattern : List Item) (group place : ℕ) (before list : List Action)
    → first (action_faults rxq known pattern group place before list) ≡ None → count_by has_fate list + cond (list_any (is_fate_in known) before) 1 0 ≤ 1
one_fate rxq known pattern group place before list none = one_of rxq known has_fate (own_counts known) pattern group place before list none

pub IsValid-clear : (attr : Attr) (list : List Action) → first (attr_faults attr) ≡ None → length list ≤ 16 → All (IsGood attr.group) list → count_by has_fate list ≤ 1
    → IsValid attr.group attr.priority list
IsValid-clear attr list clear_attr most good_values one =
    let low = fault_if (nat_lt 15 attr.group) causes.GroupRange 0 in
    let high = fault_if (nat_lt 65535 attr.priority) causes.PriorityRange 0 in
    let rest = direction_faults attr in
    record {
      in_groups = ltb-false 15 attr.group (first-if (nat_lt 15 attr.group) causes.GroupRange 0 (first-left low (high ++ rest) clear_attr));
      in_priorities = ltb-false 65535 attr.priority (first-if (nat_lt 65535 attr.priority) causes.PriorityRange 0
          (first-left high rest (first-right low (high ++ rest) clear_attr)));
      few = most;
      values = good_values;
      one_fate = one;
    }

pub on_port : (rxq group : ℕ) (action : Action) → is_bad rxq group action ≡ false → IsOnPort rxq action
on_port rxq group actions.Void fine = tt
on_port rxq group (actions.Queue queue) fine = leb-false rxq queue fine
on_port rxq group actions.Drop fine = tt
on_port rxq group (actions.Jump to) fine = tt
on_port rxq group (actions.Rss rss) fine = below rxq rss.queues.items fine
on_port rxq group (actions.Mark mark) fine = tt
on_port rxq group actions.Count fine = tt
on_port rxq group (actions.Indirect id) fine = tt
on_port rxq group (actions.Set edit) fine = tt

all_on_port : (rxq : ℕ) (known : Kinds) (pattern : List Item) (group place : ℕ) (before list : List Action)
    → first (action_faults rxq known pattern group place before list) ≡ None → All (IsOnPort rxq) list
all_on_port rxq known pattern group place before [] none = All-nil (IsOnPort rxq)
all_on_port rxq known pattern group place before (action ∷ list) none =
    let c = clear rxq known pattern group place before action list none in
    All-cons (IsOnPort rxq) action list (on_port rxq group action c.value) (all_on_port rxq known pattern group (place + 1) (before ++ action ∷ []) list c.others)

all_known : (rxq : ℕ) (known : Kinds) (pattern : List Item) (group place : ℕ) (before list : List Action)
    → first (action_faults rxq known pattern group place before list) ≡ None → All (λ action. is_unknown known action ≡ false) list
all_known rxq known pattern group place before [] none = All-nil (λ action. is_unknown known action ≡ false)
all_known rxq known pattern group place before (action ∷ list) none =
    let c = clear rxq known pattern group place before action list none in
    All-cons (λ a. is_unknown known a ≡ false) action list c.known_one (all_known rxq known pattern group (place + 1) (before ++ action ∷ []) list c.others)

-- the actions of a rule without a fault have none
actions-clear : (limits : Limits) (known : Kinds) (spec : RuleSpec) → first_fault limits known spec ≡ None
    → first (action_faults limits.rxq known spec.pattern.items.items spec.attr.group 0 [] spec.actions.list.items) ≡ None
actions-clear limits known spec none =
    let list = action_faults limits.rxq known spec.pattern.items.items spec.attr.group 0 [] spec.actions.list.items in
    let more = fault_if (nat_lt 0 spec.actions.more) causes.TooManyActions 0 in
    let items = map item_fault (faults_of spec.pattern) in
    first-right more list (first-right items (more ++ list) (first-right (attr_faults spec.attr) (items ++ (more ++ list)) none))

-- the queues of a rule without a fault are the port's
pub on_port-clear : (limits : Limits) (known : Kinds) (spec : RuleSpec) → first_fault limits known spec ≡ None → All (IsOnPort limits.rxq) spec.actions.list.items
on_port-clear limits known spec none =
    all_on_port limits.rxq known spec.pattern.items.items spec.attr.group 0 [] spec.actions.list.items (actions-clear limits known spec none)

-- a rule without a fault may take effect, where there is room for it
pub may_take-clear : (limits : Limits) (flows : Flows) (id : ℕ) (spec : RuleSpec) → limits.rxq ≤ 256 → length spec.actions.list.items ≤ 16
    → first_fault limits (kinds_in flows.shared) spec ≡ None → length flows.rules < 131072 → MayTakeEffect limits.rxq flows (rule_of id spec)
may_take-clear limits flows id spec most few none room =
    let known = kinds_in flows.shared in
    let pattern = spec.pattern.items.items in
    let list = spec.actions.list.items in
    let clear_actions = actions-clear limits known spec none in
    let others = map item_fault (faults_of spec.pattern)
    ++ (fault_if (nat_lt 0 spec.actions.more) causes.TooManyActions 0 ++ action_faults limits.rxq known pattern spec.attr.group 0 [] list) in
    let own = one_fate limits.rxq known pattern spec.attr.group 0 [] list clear_actions in
    let one = one_of limits.rxq known (is_fate_in known) (λ action e. e) pattern spec.attr.group 0 [] list clear_actions in
    record {
      valid = IsValid-clear spec.attr list (first-left (attr_faults spec.attr) others none) few (values limits.rxq known pattern spec.attr.group 0 [] list most clear_actions) (omega (arith, own));
      on_port = on_port-clear limits known spec none;
      named = all_known limits.rxq known pattern spec.attr.group 0 [] list clear_actions;
      one_fate = omega (arith, one);
      room = room;
    }
