-- What a contract sees of the shared actions.
use Rattle.std.specs.Prelude.{ℕ}
use Rattle.indirect_counters.specs.Entries.{Entries}

-- the list, and how many more actions can be created without taking memory
pub record IndirectsView : Type 0 where
  pub entries : Entries
  pub room : ℕ
