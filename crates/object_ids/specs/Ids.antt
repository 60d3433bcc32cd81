-- The id of a new object, and why one is refused. Objects are the list of their ids and values, in the order in which they
-- were made.
use Rattle.std.specs.Prelude.{◌≡◌, ◌<◌, ◌+◌, ℕ, zero, suc, Bool, false, nat_eq, nat_le, is_some, length, List, ◌++◌, Option, None, Some, IsSome, if◌then◌else◌}
use Rattle.std.specs.Map.{lookup}
use Rattle.flow_rules.specs.declared.fault.Fault.{Fault}
use Rattle.flow_rules.specs.declared.fault.Cause.TheVariants as causes
use Rattle.flow_rules.specs.Faults.{fault_if}

module _ {T : Type 0} where
  -- the id is in use
  abbrev pub is_used : ℕ → List (ℕ × T) → Bool
  is_used id objects = is_some (lookup (nat_eq id) objects)

  -- the id isn't in use, and each lower one is
  abbrev pub IsLeastUnused : List (ℕ × T) → ℕ → Type 0
  IsLeastUnused objects id = (lookup (nat_eq id) objects ≡ None) × ((k : ℕ) → k < id → IsSome (lookup (nat_eq k) objects))

  -- the first of so many ids, from one on, that isn't in use, or the one behind them
  abbrev pub unused_from : ℕ → ℕ → List (ℕ × T) → ℕ
  unused_from zero id objects = id
  unused_from (suc more) id objects = if is_used id objects then unused_from more (id + 1) objects else id

  -- the least id that isn't in use: n objects can't use all ids from 0 to n
  abbrev pub least_unused : List (ℕ × T) → ℕ
  least_unused objects = unused_from (length objects) 0 objects

  -- the id of a new object: the given one, or the least that isn't in use
  abbrev pub id_for : Option ℕ → List (ℕ × T) → ℕ
  id_for None objects = least_unused objects
  id_for (Some id) objects = id

  -- a given id is in use
  abbrev pub is_taken : Option ℕ → List (ℕ × T) → Bool
  is_taken None objects = false
  is_taken (Some id) objects = is_used id objects

  -- the faults of a new object, where there may be so many
  abbrev pub id_faults : ℕ → Option ℕ → List (ℕ × T) → List Fault
  id_faults most id objects = fault_if (is_taken id objects) causes.IdInUse 0 ++ fault_if (nat_le most (length objects)) causes.TooMany 0
