-- The words of a line.
use Rattle.std.specs.Prelude.{ℕ, ◌==◌, ◌||◌, ◌&&◌, Bool, true, false, not, nat_le, List, [], ◌∷◌, filter, bytes_eq, Option, None, Some, option_map, option_and_then, if◌then◌else◌}
use Rattle.std.specs.List.{slice_split, take_while, list_all}
use Rattle.rule_words.specs.Number.{first_number}
use Rattle.rule_words.specs.Vocabulary.{meaning_of}

-- a space (32) or a tab (9)
abbrev pub is_blank : ℕ → Bool
is_blank byte = byte == 32 || byte == 9

-- what stands between two blanks is a word, unless it is empty
abbrev pub is_word : List ℕ → Bool
is_word [] = false
is_word (byte ∷ bytes) = true

-- a word that begins with `#` (35) begins a comment
abbrev pub begins_comment : List ℕ → Bool
begins_comment [] = false
begins_comment (byte ∷ bytes) = byte == 35

-- the words of a line, up to its comment
abbrev pub words_of : List ℕ → List (List ℕ)
words_of line = take_while (λ word. not (begins_comment word)) (filter is_word (slice_split is_blank line))

-- printable ASCII (32 to 126) but for the space, which stands in no word
abbrev pub is_printable : ℕ → Bool
is_printable byte = nat_le 33 byte && nat_le byte 126

-- all bytes of all words are printable
abbrev pub are_printable : List (List ℕ) → Bool
are_printable words = list_all (list_all is_printable) words

-- the words behind this one, where a list begins with it
abbrev pub behind : List ℕ → List (List ℕ) → Option (List (List ℕ))
behind leading [] = None
behind leading (word ∷ words) = if bytes_eq word leading then Some words else None

-- a value, where no word is left
abbrev pub at_end : {X : Type 0} → List (List ℕ) → X → Option X
at_end [] x = Some x
at_end (word ∷ words) x = None

-- what the first word means in a table, and the words behind it
abbrev pub first_meaning : {X : Type 0} → List (List ℕ × X) → List (List ℕ) → Option (X × List (List ℕ))
first_meaning table [] = None
first_meaning table (word ∷ words) = option_map (λ meaning. (meaning, words)) (meaning_of table word)

-- a number of so many bits behind this word, and the words behind it
abbrev pub number_behind : List ℕ → ℕ → List (List ℕ) → Option (ℕ × List (List ℕ))
number_behind name bits words = option_and_then (first_number bits) (behind name words)

-- what was read, where no word is left behind it
abbrev pub last_of : {X : Type 0} → Option (X × List (List ℕ)) → Option X
last_of read = option_and_then (λ read. at_end read.1 read.0) read

-- an id of 16 bits, where words begin with its name, and the words behind it
abbrev pub given_id : List ℕ → List (List ℕ) → Option (Option ℕ × List (List ℕ))
given_id name [] = Some (None, [])
given_id name (word ∷ words) =
    if bytes_eq word name then option_map (λ id. (Some id.0, id.1)) (first_number 16 words) else Some (None, word ∷ words)
