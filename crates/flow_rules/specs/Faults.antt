-- The faults of a rule as asked for, in order, and the first of them.
use Rattle.std.specs.Prelude.{ℕ, ◌+◌, ◌^◌, Bool, true, false, ◌&&◌, ◌||◌, not, nat_eq, nat_lt, nat_le, map, List, [], ◌∷◌, ◌++◌, Option, None, Some}
use Rattle.std.specs.List.{list_any}
use Rattle.std.specs.Option.{is_none}
use Rattle.packet_headers.specs.declared.edits.Edit.{Edit}
use Rattle.packet_headers.specs.declared.edits.Edit.TheVariants as edits
use Rattle.header_edit.specs.Field.{has_field}
use Rattle.pattern_items.specs.declared.pattern.Item.{Item}
use Rattle.pattern_items.specs.declared.fault.ItemFault.{ItemFault}
use Rattle.pattern_items.specs.declared.fault.ItemFault.TheVariants as items
use Rattle.pattern_items.specs.Faults.{faults_of}
use Rattle.pattern_items.specs.Matches.{test_of}
use Rattle.pattern_items.specs.Order.{is_vxlan}
use Rattle.flow_actions.specs.declared.action.Action.{Action}
use Rattle.flow_actions.specs.declared.action.Action.TheVariants as actions
use Rattle.flow_actions.specs.declared.action.ActionKind.{ActionKind}
use Rattle.flow_actions.specs.Kinds.{kind_of, is_fate}
use Rattle.flow_rules.specs.declared.spec.Attr.{Attr}
use Rattle.flow_rules.specs.declared.spec.RuleSpec.{RuleSpec}
use Rattle.flow_rules.specs.declared.limits.Limits.{Limits}
use Rattle.flow_rules.specs.declared.fault.Fault.{Fault}
use Rattle.flow_rules.specs.declared.fault.Cause.{Cause}
use Rattle.flow_rules.specs.declared.fault.Cause.TheVariants as causes
use Rattle.flow_rules.specs.RuleView.{RuleView}

-- a fault of this cause at this place, where there is one
abbrev pub fault_if : Bool → Cause → ℕ → List Fault
fault_if true cause place = record { cause = cause; at = place } ∷ []
fault_if false cause place = []

-- the directions of a rule, a template, or an indirect action
abbrev pub direction_faults : Attr → List Fault
direction_faults attr = fault_if attr.egress causes.Egress 0 ++ (fault_if attr.transfer causes.Transfer 0 ++ fault_if (not attr.ingress) causes.NoIngress 0)

-- there are 16 groups, and priorities have 16 bits
abbrev pub attr_faults : Attr → List Fault
attr_faults attr =
    fault_if (nat_lt 15 attr.group) causes.GroupRange 0
    ++ (fault_if (nat_lt 65535 attr.priority) causes.PriorityRange 0 ++ direction_faults attr)

-- a pattern's fault as a rule's
abbrev pub item_fault : ItemFault → Fault
item_fault items.TooMany = record { cause = causes.TooManyItems; at = 0 }
item_fault (items.Order place) = record { cause = causes.ItemOrder; at = place }
item_fault (items.SpecMissing place) = record { cause = causes.SpecMissing; at = place }
item_fault (items.LastBelow place) = record { cause = causes.LastBelow; at = place }

-- an edit's value is wider than its field: a MAC address has 48 bits, a VLAN id 12
abbrev pub is_too_wide : Edit → Bool
is_too_wide (edits.MacSrc address) = nat_le (2 ^ 48) address
is_too_wide (edits.MacDst address) = nat_le (2 ^ 48) address
is_too_wide (edits.SetVid vid) = nat_lt 4095 vid
is_too_wide _ = false

-- an action's value is out of its range, on a port of `rxq` Rx queues: a queue that isn't there, a group that isn't later or
-- isn't there, or an edit's value
abbrev pub is_bad : ℕ → ℕ → Action → Bool
is_bad rxq group actions.Void = false
is_bad rxq group (actions.Queue queue) = nat_le rxq queue
is_bad rxq group actions.Drop = false
is_bad rxq group (actions.Jump to) = nat_lt 15 to || nat_le to group
is_bad rxq group (actions.Rss rss) = list_any (nat_le rxq) rss.queues.items
is_bad rxq group (actions.Mark mark) = false
is_bad rxq group actions.Count = false
is_bad rxq group (actions.Indirect id) = false
is_bad rxq group (actions.Set edit) = is_too_wide edit

-- an item in front of VXLAN is of a kind whose headers have the edit's field
abbrev pub is_named : Edit → List Item → Bool
is_named edit [] = false
is_named edit (item ∷ pattern) = not (is_vxlan item.kind) && (has_field edit item.kind || is_named edit pattern)

-- an edit of a header that the pattern doesn't name
abbrev pub lacks_item : List Item → Action → Bool
lacks_item pattern (actions.Set edit) = not (is_named edit pattern)
lacks_item pattern _ = false

-- what is known of the actions that rules share: the kind of the one of an id, if one is in effect
abbrev pub Kinds : Type 0
Kinds = ℕ → Option ActionKind

-- the shared action that this one stands for isn't in effect
abbrev pub is_unknown : Kinds → Action → Bool
is_unknown known (actions.Indirect id) = is_none (known id)
is_unknown known _ = false

-- the kind that an action comes to
abbrev pub kind_in : Kinds → Action → Option ActionKind
kind_in known (actions.Indirect id) = known id
kind_in known action = Some (kind_of action)

abbrev pub is_fate_if : Option ActionKind → Bool
is_fate_if None = false
is_fate_if (Some kind) = is_fate kind

-- the action says where a frame goes, where a shared one counts as its kind
abbrev pub is_fate_in : Kinds → Action → Bool
is_fate_in known action = is_fate_if (kind_in known action)

-- a COUNT of the rule's own
abbrev pub is_count : Action → Bool
is_count actions.Count = true
is_count _ = false

-- the shared action of an id
abbrev pub is_shared : ℕ → Action → Bool
is_shared id (actions.Indirect other) = nat_eq id other
is_shared id _ = false

-- a counter, or a shared action, that one of those before names too
abbrev pub is_named_before : List Action → Action → Bool
is_named_before before actions.Count = list_any is_count before
is_named_before before (actions.Indirect id) = list_any (is_shared id) before
is_named_before before _ = false

-- the faults of the action at a place, behind those before, in a rule of this group and pattern, on a port of `rxq` Rx queues
abbrev pub faults_at : ℕ → Kinds → List Item → ℕ → ℕ → List Action → Action → List Fault
faults_at rxq known pattern group place before action =
    fault_if (is_unknown known action) causes.NoIndirect place
    ++ (fault_if (is_bad rxq group action) causes.ActionConf place
    ++ (fault_if (lacks_item pattern action) causes.ItemNeeded place
    ++ (fault_if (is_fate_in known action && list_any (is_fate_in known) before) causes.SecondFate place
    ++ fault_if (is_named_before before action) causes.SecondCount place)))

-- the faults of the actions from a place on, behind those before
abbrev pub action_faults : ℕ → Kinds → List Item → ℕ → ℕ → List Action → List Action → List Fault
action_faults rxq known pattern group place before [] = []
action_faults rxq known pattern group place before (action ∷ list) =
    faults_at rxq known pattern group place before action
    ++ action_faults rxq known pattern group (place + 1) (before ++ action ∷ []) list

-- all faults of a rule
abbrev pub rule_faults : Limits → Kinds → RuleSpec → List Fault
rule_faults limits known spec =
    attr_faults spec.attr
    ++ (map item_fault (faults_of spec.pattern)
    ++ (fault_if (nat_lt 0 spec.actions.more) causes.TooManyActions 0
    ++ action_faults limits.rxq known spec.pattern.items.items spec.attr.group 0 [] spec.actions.list.items))

abbrev pub first : List Fault → Option Fault
first [] = None
first (fault ∷ _) = Some fault

-- the first fault of a rule
abbrev pub first_fault : Limits → Kinds → RuleSpec → Option Fault
first_fault limits known spec = first (rule_faults limits known spec)

-- the rule that was asked for
abbrev pub rule_of : ℕ → RuleSpec → RuleView
rule_of id spec = record {
  id = id;
  group = spec.attr.group;
  priority = spec.attr.priority;
  test = test_of spec.pattern;
  actions = spec.actions.list.items;
}
