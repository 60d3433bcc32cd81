-- How templates and tables are kept.
use Rattle.std.specs.Prelude.{◌≡◌, ◌≤◌, false, length}
use Rattle.std.specs.List.{list_any}
use Rattle.std.specs.Map.{values_of}
use Rattle.template_tables.specs.declared.templates.Templates.TheInside.{Inside}
use Rattle.template_tables.specs.Refusals.{is_without}
use Rattle.template_tables.specs.TemplatesView.{TemplatesView}

abbrev pub templates_view : Inside → TemplatesView
templates_view t = record { patterns = t.patterns.entries; actions = t.actions.entries; tables = t.tables.entries }

-- there are at most 64 objects of a kind, and each template that a table names is there
pub record IsKept (t : Inside) : Type 0 where
  pub few_patterns : length t.patterns.entries ≤ 64
  pub few_actions : length t.actions.entries ≤ 64
  pub few_tables : length t.tables.entries ≤ 64
  pub named : list_any (is_without t.patterns.entries t.actions.entries) (values_of t.tables.entries) ≡ false
