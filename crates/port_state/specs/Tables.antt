-- The templates and tables of a state: plain lists by id, in the order in which they were made.
use Rattle.std.specs.Prelude.{ℕ, nat_eq, List, [], ◌∷◌, ◌++◌, Option}
use Rattle.std.specs.Map.{remove_entry}
use Rattle.pattern_items.specs.declared.pattern.Pattern.{Pattern}
use Rattle.flow_actions.specs.declared.action.Actions.{Actions}
use Rattle.flow_rules.specs.declared.spec.Attr.{Attr}
use Rattle.object_ids.specs.Ids.{id_for}
use Rattle.rule_binding.specs.declared.template.ActionsTemplate.{ActionsTemplate}
use Rattle.rule_binding.specs.declared.template.Masks.{Masks}
use Rattle.rule_binding.specs.declared.template.PatternTemplate.{PatternTemplate}
use Rattle.rule_binding.specs.Templates.{template_of, actions_template_of}

-- a table: the attributes of its rules, the ids of its templates, and for how many rules it is
pub record Table : Type 0 where
  pub attr : Attr
  pub patterns : List ℕ
  pub actions : List ℕ
  pub rules_number : ℕ

pub record Templates : Type 0 where
  pub patterns : List (ℕ × PatternTemplate)
  pub actions : List (ℕ × ActionsTemplate)
  pub tables : List (ℕ × Table)

abbrev pub no_templates : Templates
no_templates = record { patterns = []; actions = []; tables = [] }

-- with one more of a kind, behind the others
abbrev pub pattern_made : Option ℕ → Pattern → Templates → Templates
pattern_made id pattern t = record t { patterns = t.patterns ++ (id_for id t.patterns, template_of pattern) ∷ [] }

abbrev pub actions_made : Option ℕ → Actions → Masks → Templates → Templates
actions_made id actions masks t = record t { actions = t.actions ++ (id_for id t.actions, actions_template_of actions masks) ∷ [] }

abbrev pub table_made : Option ℕ → Table → Templates → Templates
table_made id table t = record t { tables = t.tables ++ (id_for id t.tables, table) ∷ [] }

-- without one of a kind
abbrev pub pattern_gone : ℕ → Templates → Templates
pattern_gone id t = record t { patterns = remove_entry (nat_eq id) t.patterns }

abbrev pub actions_gone : ℕ → Templates → Templates
actions_gone id t = record t { actions = remove_entry (nat_eq id) t.actions }

abbrev pub table_gone : ℕ → Templates → Templates
table_gone id t = record t { tables = remove_entry (nat_eq id) t.tables }
