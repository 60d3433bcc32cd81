-- What a contract sees of an `OpQueue`.
use Rattle.std.specs.Prelude.{ℕ, ◌+◌, Bool, List, [], length}

-- how many operations may be in flight, at most 1024, since one pull answers up to 16 words of 64 results; those that are held, the oldest first; how many were
-- popped and have no result yet; the results that wait, the oldest first
pub record Queue (T : Type 0) : Type 0 where
  pub size : ℕ
  pub held : List T
  pub owed : ℕ
  pub results : List Bool

module _ {T : Type 0} where
  abbrev pub empty_queue : ℕ → Queue T
  empty_queue size = record { size = size; held = []; owed = 0; results = [] }

  -- the operations that were held and whose results were not pulled
  abbrev pub in_flight : Queue T → ℕ
  in_flight q = length q.held + q.owed + length q.results
