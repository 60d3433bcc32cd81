-- The parts that half bytes have in a hash, as a table.
use Rattle.std.specs.Prelude.{ℕ, ◌*◌, ◌/◌, ◌%◌, List, [], ◌∷◌, map}
use Rattle.std.specs.List.{range_with_len}
use Rattle.flow_actions.specs.Hash.{windows_at}

-- the bits of a half byte, the most significant first
abbrev pub half_bits : ℕ → List ℕ
half_bits half = half / 8 % 2 ∷ half / 4 % 2 ∷ half / 2 % 2 ∷ half % 2 ∷ []

-- the part of the half byte at a place of the input, counted in half bytes
unfoldable pub half_hash : ℕ → ℕ → ℕ
half_hash place half = windows_at (4 * place) (half_bits half)

-- a row for each half byte of an input of 36 bytes, with a word for each value
unfoldable pub half_table : List (List ℕ)
half_table = map (λ place. map (half_hash place) (range_with_len 0 16)) (range_with_len 0 72)
