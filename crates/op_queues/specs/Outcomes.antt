-- How the words of an `Outcomes` stand for a list of truth values.
use Rattle.std.specs.Prelude.{ℕ, ◌/◌, ◌%◌, ◌==◌, Bool, List, map, slice_index}
use Rattle.std.specs.Int.{bit_at}
use Rattle.std.specs.List.{range_with_len}

-- bit i % 64 of word i / 64
unfoldable pub outcome_at : List ℕ → ℕ → Bool
outcome_at words i = bit_at (slice_index words (i / 64)) (i % 64) == 1

-- the first len bits, in order
abbrev pub outcomes : List ℕ → ℕ → List Bool
outcomes words len = map (outcome_at words) (range_with_len 0 len)
