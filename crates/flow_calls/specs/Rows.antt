-- The rows of a list of rules.
use Rattle.std.specs.Prelude.{not, map, filter, List}
use Rattle.flow_actions.specs.declared.action.Action.{Action}
use Rattle.flow_actions.specs.declared.action.ActionKind.{ActionKind}
use Rattle.flow_actions.specs.Kinds.{kind_of, is_void}
use Rattle.pattern_items.specs.Matches.{kinds_of}
use Rattle.flow_rules.specs.RuleView.{RuleView}
use Rattle.flow_calls.specs.declared.rows.ListRow.{ListRow}

-- the kinds of the actions other than `Void`
abbrev pub action_kinds : List Action → List ActionKind
action_kinds list = map kind_of (filter (λ (action : Action). not (is_void action)) list)

abbrev pub row_of : RuleView → ListRow
row_of rule = record {
  id = rule.id;
  group = rule.group;
  priority = rule.priority;
  items = record { items = kinds_of rule.test };
  actions = record { items = action_kinds rule.actions };
}
