-- Words and their meanings.
use Rattle.std.specs.Prelude.{ℕ, List, [], ◌∷◌, bytes_eq, Option, None, Some, if◌then◌else◌}

-- the meaning of a word in a table of words and meanings: that of its first row with this word
abbrev pub meaning_of : {X : Type 0} → List (List ℕ × X) → List ℕ → Option X
meaning_of [] word = None
meaning_of (row ∷ rows) word = if bytes_eq row.0 word then Some row.1 else meaning_of rows word
