-- Words in turns, up to one that ends them: the one way in which attributes, items, fields, actions and values are listed.
use Rattle.std.specs.Prelude.{ℕ, List, [], ◌∷◌, bytes_eq, Option, None, Some, option_and_then, if◌then◌else◌}

-- what is read, and how to go on with it
infixl 10 ◌>>=◌
abbrev pub ◌>>=◌ : {X Y : Type 0} → Option X → (X → Option Y) → Option Y
read >>= next = option_and_then next read

-- What words say of a value up to the ending word, and the words behind it: `turn` says what the first of them make of the
-- value, and what it leaves of them. There are no more turns than a list is long.
abbrev pub turns : {X A : Type 0} → List X → List ℕ → (A → List (List ℕ) → Option (A × List (List ℕ))) → A → List (List ℕ) → Option (A × List (List ℕ))
turns [] ending turn a words = None
turns (x ∷ xs) ending turn a [] = None
turns (x ∷ xs) ending turn a (word ∷ words) =
    if bytes_eq word ending then Some (a, words)
    else option_and_then (λ read. turns xs ending turn read.0 read.1) (turn a (word ∷ words))

-- the same of words alone: a turn takes a word at least, so there are no more turns than words
abbrev pub up_to : {A : Type 0} → List ℕ → (A → List (List ℕ) → Option (A × List (List ℕ))) → A → List (List ℕ) → Option (A × List (List ℕ))
up_to ending turn a words = turns words ending turn a words
