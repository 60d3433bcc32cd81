-- Forms: a text with each number in it written `0`, and the numbers.
use Rattle.std.specs.Prelude.{ℕ, zero, suc, List, [], ◌∷◌, ◌++◌, map, ◌==◌, if◌then◌else◌, decimal}

-- a byte of a text, or the place of a number
pub data Piece : Type 0 where
  Hole : Piece
  Byte : ℕ → Piece

-- 48 is the code of `0`
abbrev pub piece_of : ℕ → Piece
piece_of b = if b == 48 then Hole else Byte b

abbrev pub form : List ℕ → List Piece
form text = map piece_of text

-- a number in each hole, in decimal; where no number is left a hole stays `0`
abbrev pub weave : List Piece → List ℕ → List ℕ
weave [] ns = []
weave (Byte b ∷ ps) ns = b ∷ weave ps ns
weave (Hole ∷ ps) [] = 48 ∷ weave ps []
weave (Hole ∷ ps) (n ∷ ns) = decimal n ++ weave ps ns

-- the text of a form with these numbers
abbrev pub filled : List ℕ → List ℕ → List ℕ
filled text ns = weave (form text) ns

-- how many numbers a form has
abbrev pub holes : List Piece → ℕ
holes [] = zero
holes (Hole ∷ ps) = suc (holes ps)
holes (Byte b ∷ ps) = holes ps
