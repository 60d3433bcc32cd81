-- How a table keeps its slots.
use Rattle.std.specs.Prelude.{ℕ, ◌≤◌, nat_eq, length, vec_capacity, Option, None, Some, IsSome}
use Rattle.std.specs.Map.{lookup}
use Rattle.template_tables.specs.declared.table.Table.TheInside.{Inside}
use Rattle.template_tables.specs.TableView.{TableView}

abbrev pub view_of : Inside → TableView
view_of t = record {
  attr = t.attr;
  patterns = t.patterns.items;
  actions = t.actions.items;
  rules_number = t.rules_number;
  slots = t.slots.items;
  greatest = t.greatest;
}

abbrev pub IsUpTo : Option ℕ → ℕ → Type 0
IsUpTo None id = ⊥
IsUpTo (Some greatest) id = id ≤ greatest

-- there is room for all slots, and no id is above the greatest
pub record IsWhole (t : Inside) : Type 0 where
  pub fits : length t.slots.items ≤ t.rules_number
  pub room : t.rules_number ≤ vec_capacity t.slots
  pub below : (id : ℕ) → IsSome (lookup (nat_eq id) t.slots.items) → IsUpTo t.greatest id
