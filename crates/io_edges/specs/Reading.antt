-- Bytes in memory that are read.
use Rattle.std.specs.Prelude.{◌≡◌, ℕ, min, List, ◌++◌, length, take, drop, Option, None, Some, Result, MatchResult}
use Rattle.io_edges.specs.declared.cursor.Cursor.{Cursor}
use Rattle.io_edges.specs.Plan.{allowed, one_more}

-- The bytes that were given and those that are left, the planned fault until it comes, and the count of faults.
pub record Reading : Type 0 where
  pub given : List ℕ
  pub left : List ℕ
  pub fail_at : Option ℕ
  pub faults : ℕ

-- A read that may give so many bytes gives as many of those left as there are up to that number and up to the planned
-- fault. It fails exactly where that fault comes now.
abbrev pub ReadsExactly : {E : Type 0} → Reading → Reading → ℕ → Result ℕ E → List ℕ → Type 0
ReadsExactly old new most result buf = MatchResult result
    (λ n. (allowed old.fail_at (length old.given) (min most (length old.left)) ≡ Some n)
    × (take n buf ≡ take n old.left)
    × (new ≡ record old { given = old.given ++ take n old.left; left = drop n old.left }))
    (λ _. (allowed old.fail_at (length old.given) (min most (length old.left)) ≡ None)
    × (new ≡ record old { fail_at = None; faults = one_more old.faults }))

-- a cursor in some bytes
abbrev pub reading_of : List ℕ → Cursor → Reading
reading_of bytes cursor =
    record { given = take cursor.place bytes; left = drop cursor.place bytes; fail_at = cursor.fail_at; faults = cursor.faults }
