-- Handles by ids.
use Rattle.std.specs.Prelude.{ℕ, nat_eq, fold, List, Option, None, Some, if◌then◌else◌}
use Rattle.std.specs.List.{slice_get}
use Rattle.std.specs.Option.{option_flatten, option_or}
use Rattle.slot_pool.specs.declared.handle.Handle.{Handle}
use Rattle.rules_in_effect.specs.declared.index.Waiting.{Waiting}

-- the handles of the ids from 0 on, those of ids that wait for a place, and how many more can wait without memory
pub record IdIndexView : Type 0 where
  pub places : List (Option Handle)
  pub waiting : List Waiting
  pub room : ℕ

-- what a place has, if there is one
abbrev pub placed : List (Option Handle) → ℕ → Option Handle
placed places id = option_flatten (slice_get places id)

-- the handle of an id so far, or that of what waits, if it is this id
abbrev pub next_named : ℕ → Option Handle → Waiting → Option Handle
next_named id found waits = if nat_eq waits.id id then Some waits.handle else found

-- the handle of an id that waits, the latest where it waits more than once
abbrev pub named : ℕ → List Waiting → Option Handle
named id waiting = fold (next_named id) None waiting

-- the handle of an id: what its place has, or else what waits
abbrev pub found : List (Option Handle) → List Waiting → ℕ → Option Handle
found places waiting id = option_or (placed places id) (named id waiting)

abbrev pub find : IdIndexView → ℕ → Option Handle
find index id = found index.places index.waiting id
