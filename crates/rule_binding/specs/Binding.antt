-- The faults of binding a rule to its templates, in order, and the bound rule (rte_flow guide: template API).
use Rattle.std.specs.Prelude.{ℕ, ◌+◌, Bool, false, ◌&&◌, nat_lt, is_some, if◌then◌else◌, map, List, [], ◌∷◌, ◌++◌, Option, None, Some}
use Rattle.std.specs.List.{list_any}
use Rattle.std.specs.Option.{is_none}
use Rattle.packet_headers.specs.Key.{kind_number}
use Rattle.pattern_items.specs.declared.pattern.Fields.{Fields}
use Rattle.pattern_items.specs.declared.pattern.Item.{Item}
use Rattle.pattern_items.specs.declared.pattern.Pattern.{Pattern}
use Rattle.pattern_items.specs.Faults.{is_void as is_void_item}
use Rattle.flow_actions.specs.declared.action.Action.{Action}
use Rattle.flow_actions.specs.declared.action.Actions.{Actions}
use Rattle.flow_actions.specs.Kinds.{kind_of, is_void, action_number}
use Rattle.flow_rules.specs.declared.spec.Attr.{Attr}
use Rattle.flow_rules.specs.declared.spec.RuleSpec.{RuleSpec}
use Rattle.flow_rules.specs.declared.fault.Cause.TheVariants as causes
use Rattle.flow_rules.specs.declared.fault.Fault.{Fault}
use Rattle.flow_rules.specs.Faults.{fault_if}
use Rattle.rule_binding.specs.declared.template.ActionsTemplate.{ActionsTemplate}
use Rattle.rule_binding.specs.declared.template.PatternTemplate.{PatternTemplate}
use Rattle.rule_binding.specs.declared.template.TemplateAction.{TemplateAction}
use Rattle.rule_binding.specs.declared.template.TemplateItem.{TemplateItem}
use Rattle.rule_binding.specs.Difference.{difference}
use Rattle.rule_binding.specs.Templates.{fault_at}

-- the mask has a bit set
abbrev pub has_bits : Option Fields → Bool
has_bits None = false
has_bits (Some mask) = list_any (nat_lt 0) mask.v

abbrev pub item_number : Item → ℕ
item_number item = kind_number item.kind

abbrev pub wanted_item : TemplateItem → ℕ
wanted_item wanted = kind_number wanted.kind

abbrev pub number_of_action : Action → ℕ
number_of_action action = action_number (kind_of action)

abbrev pub wanted_action : TemplateAction → ℕ
wanted_action wanted = number_of_action wanted.action

-- the faults of the items from a place on, where their kinds are those of the template; none stands at a `Void` item
abbrev pub item_faults : ℕ → List TemplateItem → List Item → List Fault
item_faults place [] items = []
item_faults place (wanted ∷ template) [] = []
item_faults place (wanted ∷ template) (item ∷ items) =
    if is_void_item item.kind then item_faults (place + 1) (wanted ∷ template) items
    else fault_if (is_some item.last) causes.LastInTemplate place
    ++ (fault_if (has_bits wanted.mask && is_none item.given) causes.SpecNeeded place
    ++ item_faults (place + 1) template items)

-- all faults of binding a rule of these items and actions
abbrev pub binding_faults : PatternTemplate → ActionsTemplate → Pattern → Actions → List Fault
binding_faults items list pattern actions =
    fault_if (nat_lt 0 pattern.more) causes.TooManyItems 0
    ++ (fault_if (nat_lt 0 actions.more) causes.TooManyActions 0
    ++ (fault_at causes.ItemDiffers (difference (map wanted_item items.items.items) 0 (map item_number pattern.items.items))
    ++ (item_faults 0 items.items.items pattern.items.items
    ++ fault_at causes.ActionDiffers (difference (map wanted_action list.list.items) 0 (map number_of_action actions.list.items)))))

-- The bound item takes its own spec and the template's mask. Where the template's mask has no bit, it tests nothing.
abbrev pub bound_item : TemplateItem → Item → Item
bound_item wanted item =
    if has_bits wanted.mask then record { kind = item.kind; given = item.given; last = None; mask = wanted.mask }
    else record { kind = item.kind; given = None; last = None; mask = None }

-- `Void` items stay
abbrev pub bound_items : List TemplateItem → List Item → List Item
bound_items template [] = []
bound_items [] (item ∷ items) = item ∷ bound_items [] items
bound_items (wanted ∷ template) (item ∷ items) =
    if is_void_item item.kind then item ∷ bound_items (wanted ∷ template) items
    else bound_item wanted item ∷ bound_items template items

-- the template's value where all rules share it, else the rule's own
abbrev pub bound_action : TemplateAction → Action → Action
bound_action wanted action = if wanted.fixed then wanted.action else action

-- `Void` actions stay
abbrev pub bound_actions : List TemplateAction → List Action → List Action
bound_actions template [] = []
bound_actions [] (action ∷ list) = action ∷ bound_actions [] list
bound_actions (wanted ∷ template) (action ∷ list) =
    if is_void action then action ∷ bound_actions (wanted ∷ template) list
    else bound_action wanted action ∷ bound_actions template list

-- the bound rule, with the attributes of its table
abbrev pub bound_rule : Attr → PatternTemplate → ActionsTemplate → Pattern → Actions → RuleSpec
bound_rule attr items list pattern actions = record {
  attr = attr;
  pattern = record { items = record { items = bound_items items.items.items pattern.items.items }; more = 0 };
  actions = record { list = record { items = bound_actions list.list.items actions.list.items }; more = 0 };
}
