-- The words of a list of bytes: of what is left of it, and of two lists joined.
use Rattle.std.proofs.Common.{◌≡◌, ℕ, ◌+◌, ◌*◌, ◌<◌, List, ◌∷◌, length, get_or, drop, sym, ap, ◌∙◌, arith}
use Rattle.std.proofs.lemmas.List.{drop_more}
use Rattle.header_edit.specs.Checksum.{words_of, mended, mended_word}

-- the first word of what is left
pub words_of-drop_more : (xs : List ℕ) (i j k : ℕ) → j ≡ i + 1 → k ≡ i + 2 → j < length xs
    → words_of (drop i xs) ≡ (get_or xs i 0 * 256 + get_or xs j 0) ∷ words_of (drop k xs)
words_of-drop_more xs i j k e f h =
    let first : drop i xs ≡ get_or xs i 0 ∷ drop (i + 1) xs = drop_more xs i 0 (omega arith) in
    let second : drop j xs ≡ get_or xs j 0 ∷ drop (j + 1) xs = drop_more xs j 0 h in
    let third : k ≡ j + 1 = omega arith in
    ap words_of (first ∙ ap (λ n. get_or xs i 0 ∷ drop n xs) (sym e) ∙ ap (λ r. get_or xs i 0 ∷ r) second)
    ∙ ap (λ n. (get_or xs i 0 * 256 + get_or xs j 0) ∷ words_of (drop n xs)) (sym third)

-- a step of the walk over the words that were and those that are
pub mended-drop_more : (old new : List ℕ) (checksum after m n i j k : ℕ) → j ≡ i + 1 → k ≡ i + 2 → j < length old → j < length new
    → m ≡ get_or old i 0 * 256 + get_or old j 0 → n ≡ get_or new i 0 * 256 + get_or new j 0 → after ≡ mended_word checksum m n
    → mended checksum (words_of (drop i old)) (words_of (drop i new)) ≡ mended after (words_of (drop k old)) (words_of (drop k new))
mended-drop_more old new checksum after m n i j k e f g h is-m is-n step =
    ap (λ ws. mended checksum ws (words_of (drop i new))) (words_of-drop_more old i j k e f g)
    ∙ ap (λ ws. mended checksum ((get_or old i 0 * 256 + get_or old j 0) ∷ words_of (drop k old)) ws) (words_of-drop_more new i j k e f h)
    ∙ ap (λ a. mended a (words_of (drop k old)) (words_of (drop k new))) (sym (step ∙ ap (λ x. mended_word checksum x n) is-m ∙ ap (mended_word checksum (get_or old i 0 * 256 + get_or old j 0)) is-n))
