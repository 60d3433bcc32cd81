-- A rule that is bound to two templates of a table.
use Rattle.std.specs.Prelude.{ℕ, nat_eq, nat_le, length, slice_get, option_and_then, List, [], ◌∷◌, ◌++◌, Option, None, Some}
use Rattle.std.specs.Map.{lookup}
use Rattle.pattern_items.specs.declared.pattern.Pattern.{Pattern}
use Rattle.flow_actions.specs.declared.action.Actions.{Actions}
use Rattle.flow_rules.specs.declared.spec.Attr.{Attr}
use Rattle.flow_rules.specs.declared.spec.RuleSpec.{RuleSpec}
use Rattle.flow_rules.specs.declared.fault.Cause.TheVariants as causes
use Rattle.flow_rules.specs.declared.fault.Fault.{Fault}
use Rattle.flow_rules.specs.Faults.{fault_if}
use Rattle.rule_binding.specs.declared.template.ActionsTemplate.{ActionsTemplate}
use Rattle.rule_binding.specs.declared.template.PatternTemplate.{PatternTemplate}
use Rattle.rule_binding.specs.Binding.{binding_faults, bound_rule}
use Rattle.template_tables.specs.TableView.{TableView}
use Rattle.template_tables.specs.TemplatesView.{TemplatesView, table_of}

-- the template at an index of a table's ids
abbrev pub template_at : {T : Type 0} → List (ℕ × T) → List ℕ → ℕ → Option T
template_at templates ids index = option_and_then (λ id. lookup (nat_eq id) templates) (slice_get ids index)

-- each template that a table names is there
abbrev pub faults_with : Option PatternTemplate → Option ActionsTemplate → Pattern → Actions → List Fault
faults_with (Some items) (Some list) pattern actions = binding_faults items list pattern actions
faults_with _ _ pattern actions = []

abbrev pub faults_in : TemplatesView → Option TableView → ℕ → ℕ → Pattern → Actions → List Fault
faults_in t None pt act pattern actions = record { cause = causes.NoObject; at = 0 } ∷ []
faults_in t (Some table) pt act pattern actions =
    fault_if (nat_le (length table.patterns) pt) causes.TemplateIndex 0
    ++ (fault_if (nat_le (length table.actions) act) causes.TemplateIndex 0
    ++ faults_with (template_at t.patterns table.patterns pt) (template_at t.actions table.actions act) pattern actions)

-- all faults of binding a rule to the templates at two indexes of a table
abbrev pub bind_refusals : TemplatesView → ℕ → ℕ → ℕ → Pattern → Actions → List Fault
bind_refusals t table pt act pattern actions = faults_in t (table_of table t) pt act pattern actions

abbrev pub bound_with : Attr → Option PatternTemplate → Option ActionsTemplate → Pattern → Actions → Option RuleSpec
bound_with attr (Some items) (Some list) pattern actions = Some (bound_rule attr items list pattern actions)
bound_with attr _ _ pattern actions = None

abbrev pub bound_by : TemplatesView → Option TableView → ℕ → ℕ → Pattern → Actions → Option RuleSpec
bound_by t None pt act pattern actions = None
bound_by t (Some table) pt act pattern actions = bound_with table.attr (template_at t.patterns table.patterns pt) (template_at t.actions table.actions act) pattern actions

-- the bound rule
abbrev pub bound_in : TemplatesView → ℕ → ℕ → ℕ → Pattern → Actions → Option RuleSpec
bound_in t table pt act pattern actions = bound_by t (table_of table t) pt act pattern actions
