-- Words that switch something on or off.
use Rattle.std.specs.Prelude.{ℕ, Bool, true, false, List, [], ◌∷◌, codes, Option, None, option_map}
use Rattle.rule_words.specs.Vocabulary.{meaning_of}

abbrev pub flags : List (List ℕ × Bool)
flags =
    (codes "1", true) ∷ (codes "yes", true) ∷ (codes "on", true) ∷ (codes "true", true) ∷ (codes "Y", true)
    ∷ (codes "0", false) ∷ (codes "no", false) ∷ (codes "off", false) ∷ (codes "false", false) ∷ (codes "N", false)
    ∷ []

-- what the first word says, and the words behind it
abbrev pub flag_and_rest : List (List ℕ) → Option (Bool × List (List ℕ))
flag_and_rest [] = None
flag_and_rest (word ∷ words) = option_map (λ on. (on, words)) (meaning_of flags word)
