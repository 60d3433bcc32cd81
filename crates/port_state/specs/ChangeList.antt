-- What contracts see of a list of changes.
use Rattle.std.specs.Prelude.{ℕ, List}
use Rattle.flow_rules.specs.declared.change.Change.{Change}

-- the changes, and how many more can come without memory
pub record ChangesView : Type 0 where
  pub list : List Change
  pub room : ℕ
