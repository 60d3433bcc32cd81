-- When a template, a table or its end is refused: all faults in order. The first of them counts.
use Rattle.std.specs.Prelude.{◌≡◌, ℕ, ◌+◌, Bool, false, not, ◌||◌, nat_eq, nat_lt, length, sum_by, List, ◌++◌, Option, None, Some}
use Rattle.std.specs.List.{list_any}
use Rattle.std.specs.Map.{values_of}
use Rattle.pattern_items.specs.declared.pattern.Pattern.{Pattern}
use Rattle.flow_actions.specs.declared.action.Actions.{Actions}
use Rattle.flow_rules.specs.declared.spec.Attr.{Attr}
use Rattle.flow_rules.specs.declared.fault.Cause.TheVariants as causes
use Rattle.flow_rules.specs.declared.fault.Fault.{Fault}
use Rattle.flow_rules.specs.declared.fault.TplFault.{TplFault}
use Rattle.flow_rules.specs.declared.fault.TplFault.TheVariants as refusals
use Rattle.flow_rules.specs.Faults.{fault_if, attr_faults}
use Rattle.object_ids.specs.Ids.{is_used, id_faults}
use Rattle.rule_binding.specs.declared.template.ActionsTemplate.{ActionsTemplate}
use Rattle.rule_binding.specs.declared.template.Masks.{Masks}
use Rattle.rule_binding.specs.declared.template.PatternTemplate.{PatternTemplate}
use Rattle.rule_binding.specs.Templates.{pattern_faults, actions_faults}
use Rattle.template_tables.specs.TableView.{TableView}
use Rattle.template_tables.specs.TemplatesView.{TemplatesView, table_of}

-- there may be 64 objects of a kind
abbrev pub pattern_refusals : TemplatesView → Option ℕ → Attr → Pattern → List Fault
pattern_refusals t id attr pattern = pattern_faults attr pattern ++ id_faults 64 id t.patterns

abbrev pub actions_refusals : TemplatesView → Option ℕ → Attr → Actions → Masks → List Fault
actions_refusals t id attr actions masks = actions_faults attr actions masks ++ id_faults 64 id t.actions

-- how many rules the tables are made for
abbrev pub rules_of : List TableView → ℕ
rules_of tables = sum_by (λ (table : TableView). table.rules_number) tables

-- a table is for 1 rule or more, and all tables together for 65,536
abbrev pub is_out_of_range : ℕ → ℕ → Bool
is_out_of_range rules others = nat_eq rules 0 || nat_lt 65536 (others + rules)

-- one of the ids isn't in use
abbrev pub is_any_missing : {T : Type 0} → List (ℕ × T) → List ℕ → Bool
is_any_missing objects ids = list_any (λ id. not (is_used id objects)) ids

-- a table names a template that isn't there
abbrev pub is_without : List (ℕ × PatternTemplate) → List (ℕ × ActionsTemplate) → TableView → Bool
is_without patterns actions table = is_any_missing patterns table.patterns || is_any_missing actions table.actions

abbrev pub table_refusals : TemplatesView → Option ℕ → Attr → ℕ → List ℕ → List ℕ → List Fault
table_refusals t id attr rules_number patterns actions =
    attr_faults attr
    ++ (fault_if (is_out_of_range rules_number (rules_of (values_of t.tables))) causes.RulesNumber 0
    ++ (fault_if (is_any_missing t.patterns patterns) causes.NoObject 0
    ++ (fault_if (is_any_missing t.actions actions) causes.NoObject 0
    ++ id_faults 64 id t.tables)))

-- a table names the template of an id
abbrev pub names_pattern : ℕ → TableView → Bool
names_pattern id table = list_any (nat_eq id) table.patterns

abbrev pub names_actions : ℕ → TableView → Bool
names_actions id table = list_any (nat_eq id) table.actions

abbrev pub pattern_end_refusals : TemplatesView → ℕ → List Fault
pattern_end_refusals t id = fault_if (not (is_used id t.patterns)) causes.NoObject 0 ++ fault_if (list_any (names_pattern id) (values_of t.tables)) causes.Busy 0

abbrev pub actions_end_refusals : TemplatesView → ℕ → List Fault
actions_end_refusals t id = fault_if (not (is_used id t.actions)) causes.NoObject 0 ++ fault_if (list_any (names_actions id) (values_of t.tables)) causes.Busy 0

-- a slot of the table is taken
abbrev pub is_busy : Option TableView → Bool
is_busy None = false
is_busy (Some table) = nat_lt 0 (length table.slots)

abbrev pub table_end_refusals : TemplatesView → ℕ → List Fault
table_end_refusals t id = fault_if (not (is_used id t.tables)) causes.NoObject 0 ++ fault_if (is_busy (table_of id t)) causes.Busy 0

-- a call that makes an object answers its first fault, or want of memory where there is none
abbrev pub IsAnswerTo : Option Fault → TplFault → Type 0
IsAnswerTo first refusals.NoMemory = first ≡ None
IsAnswerTo first (refusals.Fault fault) = first ≡ Some fault
