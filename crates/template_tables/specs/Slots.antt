-- The slots of a table (rte_flow guide: template API). A slot is reserved for the id of a rule, settled with the rule when that takes
-- effect, and free when the rule is gone.
use Rattle.std.specs.Prelude.{◌≡◌, ℕ, ◌<◌, nat_eq, length, slice_index_or, slice_set, remove, is_some, if◌then◌else◌, List, [], ◌∷◌, ◌++◌, Option, None, Some}
use Rattle.std.specs.Map.{lookup, remove_entry, set_value}
use Rattle.flow_rules.specs.declared.fault.Cause.TheVariants as causes
use Rattle.flow_rules.specs.declared.fault.Fault.{Fault}
use Rattle.flow_rules.specs.Faults.{fault_if}
use Rattle.flow_rules.specs.RuleView.{RuleView}
use Rattle.template_tables.specs.TableView.{TableView}

-- ids rise
abbrev pub IsAbove : ℕ → Option ℕ → Type 0
IsAbove id None = Unit {0}
IsAbove id (Some greatest) = greatest < id

abbrev pub reserved : ℕ → TableView → TableView
reserved id table = record table { slots = table.slots ++ (id, None) ∷ []; greatest = Some id }

abbrev pub settled : RuleView → TableView → TableView
settled rule table = record table { slots = set_value (nat_eq rule.id) table.slots (Some rule) }

abbrev pub rule_of_slot : Option (Option RuleView) → Option RuleView
rule_of_slot None = None
rule_of_slot (Some slot) = slot

-- the rule in the slot of an id, where one is settled there
abbrev pub settled_in : ℕ → TableView → Option RuleView
settled_in id table = rule_of_slot (lookup (nat_eq id) table.slots)

-- a slot is free once its rule is gone
abbrev pub freed : ℕ → TableView → TableView
freed id table = if is_some (settled_in id table) then record table { slots = remove_entry (nat_eq id) table.slots } else table

-- the first slot of an id stands at this place
pub record IsFirstAt {X : Type 0} (id : ℕ) (slots : List (ℕ × X)) (place : ℕ) : Type 0 where
  pub within : place < length slots
  pub slot : (entry : ℕ × X) → lookup (nat_eq id) slots ≡ Some (slice_index_or slots place entry).1
  pub without : remove slots place ≡ remove_entry (nat_eq id) slots
  pub written : (value : X) → slice_set slots place (id, value) ≡ set_value (nat_eq id) slots value

-- the faults of taking a slot
abbrev pub slot_refusals : Option TableView → List Fault
slot_refusals None = []
slot_refusals (Some table) = fault_if (nat_eq (length table.slots) table.rules_number) causes.TableFull 0

-- the rule in a slot of the table of an id
abbrev pub settled_at : ℕ → Option TableView → Option RuleView
settled_at id None = None
settled_at id (Some table) = settled_in id table
