-- Digests that are exact: the numbers of the items are digits, and no digest is as great as 2^128.
use Rattle.std.specs.Prelude.{ℕ, ◌+◌, ◌*◌, ◌^◌, ◌≤◌, ◌<◌, slice_index, fold, List, [], ◌∷◌}
use Rattle.std.specs.List.{range_with_len}
use Rattle.pattern_items.specs.declared.pattern.Fields.{Fields}

-- the greatest digest with one more digit, whose greatest is the mask
unfoldable pub raised : ℕ → ℕ → ℕ
raised most mask = most * mask + most + mask

abbrev pub most_fields : Fields → ℕ → ℕ
most_fields masks most = fold (λ (d : ℕ) (field : ℕ). raised d (slice_index masks.v field)) most (range_with_len 0 6)

abbrev pub most_all : List Fields → ℕ → ℕ
most_all [] most = most
most_all (m ∷ ms) most = most_all ms (most_fields m most)

-- digests by these masks are exact
pub record AreExact (masks : List Fields) : Type 0 where
  pub fit : most_all masks 0 < 2 ^ 128

-- each number is at most its mask
pub record IsWithin (masks numbers : Fields) : Type 0 where
  pub each : (field : ℕ) → field < 6 → slice_index numbers.v field ≤ slice_index masks.v field

abbrev pub AreWithin : List Fields → List Fields → Type 0
AreWithin [] [] = Unit {0}
AreWithin [] (n ∷ ns) = ⊥
AreWithin (m ∷ ms) [] = ⊥
AreWithin (m ∷ ms) (n ∷ ns) = IsWithin m n × AreWithin ms ns
