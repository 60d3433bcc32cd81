-- Results with one text are one list of results.
use Rattle.std.proofs.Common.{◌≡◌, ℕ, Bool, true, false, List, [], ◌∷◌, ◌++◌, drop, Some, refl, sym, ap, ◌∙◌, append_assoc}
use Rattle.std.specs.List.{flat_map}
use Rattle.history_text.specs.Pulled.{letter_of, letters_text}
use Rattle.history_text.proofs.Words.{found, words-same}

abbrev all_outcomes : List Bool
all_outcomes = true ∷ false ∷ []

letter-found : (ok : Bool) → found letter_of all_outcomes (letter_of ok) ≡ Some ok
letter-found true = refl
letter-found false = refl

pub letters-same : (xs ys : List Bool) (r s : List ℕ) → letters_text xs ++ r ≡ letters_text ys ++ s → (xs ≡ ys) × (r ≡ s)
letters-same xs ys r s e =
    let (outcomes, rests) = words-same letter_of all_outcomes letter-found xs ys (93 ∷ r) (93 ∷ s) refl refl
    (sym (append_assoc (flat_map letter_of xs) (93 ∷ []) r) ∙ e ∙ append_assoc (flat_map letter_of ys) (93 ∷ []) s) in
    (outcomes, ap (drop 1) rests)
