-- What contracts see of templates and tables: lists by id, in the order in which they were made.
use Rattle.std.specs.Prelude.{ℕ, nat_eq, List, [], Option, None, Some}
use Rattle.std.specs.Map.{lookup, set_value}
use Rattle.rule_binding.specs.declared.template.ActionsTemplate.{ActionsTemplate}
use Rattle.rule_binding.specs.declared.template.PatternTemplate.{PatternTemplate}
use Rattle.template_tables.specs.TableView.{TableView}

pub record TemplatesView : Type 0 where
  pub patterns : List (ℕ × PatternTemplate)
  pub actions : List (ℕ × ActionsTemplate)
  pub tables : List (ℕ × TableView)

abbrev pub none_yet : TemplatesView
none_yet = record { patterns = []; actions = []; tables = [] }

-- the table of an id
abbrev pub table_of : ℕ → TemplatesView → Option TableView
table_of id t = lookup (nat_eq id) t.tables

abbrev pub changed_if : ℕ → (TableView → TableView) → TemplatesView → Option TableView → TemplatesView
changed_if id change t None = t
changed_if id change t (Some table) = record t { tables = set_value (nat_eq id) t.tables (change table) }

-- with a change of the table of an id
abbrev pub with_table : ℕ → (TableView → TableView) → TemplatesView → TemplatesView
with_table id change t = changed_if id change t (table_of id t)
