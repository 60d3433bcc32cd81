-- The slot of a rule that is gone.
use Rattle.std.specs.Prelude.{ℕ, List, [], ◌∷◌, Option, None, Some}
use Rattle.rules_in_effect.specs.declared.in_effect.InEffect.{InEffect}
use Rattle.template_tables.specs.Slots.{freed}
use Rattle.template_tables.specs.TemplatesView.{TemplatesView, with_table}

abbrev pub freed_in : Option ℕ → ℕ → TemplatesView → TemplatesView
freed_in None id t = t
freed_in (Some table) id t = with_table table (freed id) t

-- the slot is free, where the rule stood in a table
abbrev pub freed_by : Option InEffect → TemplatesView → TemplatesView
freed_by None t = t
freed_by (Some entry) t = freed_in entry.table entry.rule.id t

-- and so are those of many
abbrev pub freed_all : List InEffect → TemplatesView → TemplatesView
freed_all [] t = t
freed_all (entry ∷ list) t = freed_all list (freed_in entry.table entry.rule.id t)
