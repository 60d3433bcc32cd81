-- What templates keep of the lists that they are made of, and when they are refused (rte_flow guide: template API).
use Rattle.std.specs.Prelude.{ℕ, ◌+◌, Bool, false, not, ◌||◌, nat_eq, nat_lt, is_some, if◌then◌else◌, map, filter, List, [], ◌∷◌, ◌++◌, Option, None, Some}
use Rattle.packet_headers.specs.declared.items.ItemKind.{ItemKind}
use Rattle.pattern_items.specs.declared.order.Before.{Before}
use Rattle.pattern_items.specs.declared.pattern.Fields.{Fields}
use Rattle.pattern_items.specs.declared.pattern.Item.{Item}
use Rattle.pattern_items.specs.declared.pattern.Pattern.{Pattern}
use Rattle.pattern_items.specs.Conditions.{default_masks}
use Rattle.pattern_items.specs.Faults.{is_void as is_void_item}
use Rattle.pattern_items.specs.Matches.{is_asked}
use Rattle.pattern_items.specs.Order.{nothing_before, before_next, may_stand}
use Rattle.flow_actions.specs.declared.action.Action.{Action}
use Rattle.flow_actions.specs.declared.action.ActionKind.{ActionKind}
use Rattle.flow_actions.specs.declared.action.Actions.{Actions}
use Rattle.flow_actions.specs.Kinds.{kind_of, is_void, action_number}
use Rattle.flow_rules.specs.declared.spec.Attr.{Attr}
use Rattle.flow_rules.specs.declared.fault.Cause.{Cause}
use Rattle.flow_rules.specs.declared.fault.Cause.TheVariants as causes
use Rattle.flow_rules.specs.declared.fault.Fault.{Fault}
use Rattle.flow_rules.specs.Faults.{fault_if, direction_faults}
use Rattle.rule_binding.specs.declared.template.ActionsTemplate.{ActionsTemplate}
use Rattle.rule_binding.specs.declared.template.Masks.{Masks}
use Rattle.rule_binding.specs.declared.template.PatternTemplate.{PatternTemplate}
use Rattle.rule_binding.specs.declared.template.TemplateAction.{TemplateAction}
use Rattle.rule_binding.specs.declared.template.TemplateItem.{TemplateItem}
use Rattle.rule_binding.specs.Difference.{difference}

-- The mask of a template's item is its own where it has one. It is the default mask where the item has only spec. Else the item
-- has no mask.
abbrev pub template_mask : ItemKind → Option Fields → Option Fields → Option Fields
template_mask kind given (Some mask) = Some mask
template_mask kind (Some given) None = Some (record { v = default_masks kind })
template_mask kind None None = None

-- what a template keeps of an item: spec values are ignored
abbrev pub template_item : Item → TemplateItem
template_item item = record { kind = item.kind; mask = template_mask item.kind item.given item.mask }

-- what it keeps of items, `Void` left out
abbrev pub template_items : List Item → List TemplateItem
template_items items = map template_item (filter is_asked items)

abbrev pub template_of : Pattern → PatternTemplate
template_of pattern = record { items = record { items = template_items pattern.items.items } }

-- the faults of a template's items from a place on, behind what stands before them; none stands at a `Void` item
abbrev pub order_faults : ℕ → Before → List Item → List Fault
order_faults place before [] = []
order_faults place before (item ∷ items) =
    if is_void_item item.kind then order_faults (place + 1) before items
    else fault_if (not (may_stand before item.kind)) causes.ItemOrder place
    ++ (fault_if (is_some item.last) causes.LastInTemplate place
    ++ order_faults (place + 1) (before_next before item.kind) items)

-- the faults of a template's items
abbrev pub item_faults : Pattern → List Fault
item_faults pattern = fault_if (nat_lt 0 pattern.more) causes.TooManyItems 0 ++ order_faults 0 nothing_before pattern.items.items

-- all faults of a pattern template, but those of its id
abbrev pub pattern_faults : Attr → Pattern → List Fault
pattern_faults attr pattern = direction_faults attr ++ item_faults pattern

abbrev pub is_void_kind : ActionKind → Bool
is_void_kind kind = nat_eq (action_number kind) 0

abbrev pub is_done : Action → Bool
is_done action = not (is_void action)

-- the kinds of the actions, `Void` left out
abbrev pub kinds_done : List Action → List ActionKind
kinds_done list = map kind_of (filter is_done list)

-- for each kind but `Void` whether its value is set
abbrev pub set_kinds : List ActionKind → List Bool → List Bool
set_kinds [] set = []
set_kinds (kind ∷ kinds) [] = []
set_kinds (kind ∷ kinds) (is_set ∷ set) = if is_void_kind kind then set_kinds kinds set else is_set ∷ set_kinds kinds set

-- what a template keeps of actions, `Void` left out: all rules share the value of an action whose mask is set
abbrev pub template_actions : List Action → List Bool → List TemplateAction
template_actions [] fixed = []
template_actions (action ∷ list) [] = if is_void action then template_actions list [] else record { action = action; fixed = false } ∷ template_actions list []
template_actions (action ∷ list) (is_fixed ∷ fixed) =
    if is_void action then template_actions list (is_fixed ∷ fixed)
    else record { action = action; fixed = is_fixed } ∷ template_actions list fixed

abbrev pub actions_template_of : Actions → Masks → ActionsTemplate
actions_template_of actions masks =
    record { list = record { items = template_actions actions.list.items (set_kinds masks.kinds.items masks.set) } }

-- a fault at a place, where there is one
abbrev pub fault_at : Cause → Option ℕ → List Fault
fault_at cause None = []
fault_at cause (Some place) = record { cause = cause; at = place } ∷ []

-- all faults of an actions template, but those of its id: its actions and its mask list have the same kinds in order
abbrev pub actions_faults : Attr → Actions → Masks → List Fault
actions_faults attr actions masks =
    direction_faults attr
    ++ (fault_if (nat_lt 0 actions.more || nat_lt 0 masks.more) causes.TooManyActions 0
    ++ fault_at causes.ActionDiffers (difference (map action_number (kinds_done actions.list.items)) 0 (map action_number masks.kinds.items)))
