-- What is told of a sink in memory.
use Rattle.std.specs.Prelude.{◌≡◌, ℕ, ◌-◌, min, nat_le, List, ◌++◌, length, take, Option, None, Some, Result, MatchResult, if◌then◌else◌}
use Rattle.io_edges.specs.Plan.{allowed, left_planned, one_more}

-- The bytes that it took, how many it takes in all, the planned fault until it comes, and the count of faults.
pub record MemSinkState : Type 0 where
  pub taken : List ℕ
  pub room : ℕ
  pub fail_at : Option ℕ
  pub faults : ℕ

-- how many bytes of a piece of so many it takes now: none of any number, where it is full or the planned fault comes
abbrev pub takes_now : MemSinkState → ℕ → Option ℕ
takes_now s count = if nat_le s.room (length s.taken) then None
    else allowed s.fail_at (length s.taken) (min count (s.room - length s.taken))

-- A write takes as much of the piece as there is room for, up to the planned fault. It fails exactly where it is full
-- or that fault comes now, which is spent then.
abbrev pub WritesExactly : {E : Type 0} → MemSinkState → MemSinkState → Result ℕ E → List ℕ → Type 0
WritesExactly old new result piece = MatchResult result
    (λ n. (takes_now old (length piece) ≡ Some n) × (new ≡ record old { taken = old.taken ++ take n piece }))
    (λ _. (takes_now old (length piece) ≡ None)
    × (new ≡ record old { fail_at = left_planned old.fail_at (length old.taken); faults = one_more old.faults }))
