-- What captures of the tests begin with.
use Rattle.std.specs.Prelude.{◌≡◌, ℕ, ◌++◌, List, [], ◌∷◌}

-- the header of a little-endian capture of format 2.4 with microseconds and link type Ethernet
abbrev pub file_header : List ℕ
file_header = 0xd4 ∷ 0xc3 ∷ 0xb2 ∷ 0xa1 ∷ 2 ∷ 0 ∷ 4 ∷ 0 ∷ 0 ∷ 0 ∷ 0 ∷ 0 ∷ 0 ∷ 0 ∷ 0 ∷ 0 ∷ 0 ∷ 0 ∷ 4 ∷ 0 ∷ 1 ∷ 0 ∷ 0 ∷ 0 ∷ []

-- some records stand behind that header
abbrev pub BeginsAsFile : List ℕ → Type 0
BeginsAsFile bytes = (records : List ℕ) × (bytes ≡ file_header ++ records)
