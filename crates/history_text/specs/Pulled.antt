-- The results that a flow queue gave.
use Rattle.std.specs.Prelude.{ℕ, Bool, true, false, not, List, ◌++◌, codes}
use Rattle.std.specs.List.{flat_map}

-- an operation ended so
abbrev pub is_outcome : Bool → Bool → Bool
is_outcome true outcome = outcome
is_outcome false outcome = not outcome

-- a letter for an operation that succeeded, and one for one that failed
abbrev pub letter_of : Bool → List ℕ
letter_of true = codes "S"
letter_of false = codes "F"

abbrev pub letters_text : List Bool → List ℕ
letters_text outcomes = flat_map letter_of outcomes ++ codes "]"
