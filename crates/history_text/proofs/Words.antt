-- Words of a table, one behind another, are told apart.
use Rattle.std.proofs.Common.{◌≡◌, ◌==◌, ℕ, Bool, true, false, cond, ◌&&◌, List, [], ◌∷◌, ◌++◌, Option, Some, None, option_map, refl, sym, ap, ◌∙◌, append_assoc, eq-eqb, eqb-true}
use Rattle.std.specs.List.{flat_map}
use Rattle.std.proofs.lemmas.Bool.{and_parts, both_ways}
use Rattle.std.proofs.lemmas.Option.{none-some}
use Rattle.std.proofs.NetLemmas.Options.{same_parts}

-- what stands behind a word at the front of a text
abbrev pub strip : List ℕ → List ℕ → Option (List ℕ)
strip [] text = Some text
strip (b ∷ word) [] = None
strip (b ∷ word) (c ∷ text) = cond (c == b) (strip word text) None

abbrev pub word_or : {A : Type 0} → A → Option (List ℕ) → Option (A × List ℕ) → Option (A × List ℕ)
word_or a None other = other
word_or a (Some rest) other = Some (a, rest)

-- the first of these whose word stands at the front, and what stands behind
abbrev pub word_by : {A : Type 0} → (A → List ℕ) → List A → List ℕ → Option (A × List ℕ)
word_by word [] text = None
word_by word (a ∷ others) text = word_or a (strip (word a) text) (word_by word others text)

abbrev same_word : List ℕ → List ℕ → Bool
same_word [] [] = true
same_word (b ∷ v) (c ∷ w) = (b == c) && same_word v w
same_word v w = false

-- two words differ before either ends
abbrev differ : List ℕ → List ℕ → Bool
differ [] w = false
differ (b ∷ v) [] = false
differ (b ∷ v) (c ∷ w) = cond (c == b) (differ v w) true

-- the first of these with that word, where those in front of it differ
abbrev pub found : {A : Type 0} → (A → List ℕ) → List A → List ℕ → Option A
found word [] w = None
found word (a ∷ others) w = cond (same_word (word a) w) (Some a) (cond (differ (word a) w) (found word others w) None)

strip-back : (w rest : List ℕ) → strip w (w ++ rest) ≡ Some rest
strip-back [] rest = refl
strip-back (b ∷ w) rest = ap (λ t. cond t (strip w (w ++ rest)) None) (eq-eqb b b refl) ∙ strip-back w rest

strip-other : (v w rest : List ℕ) → differ v w ≡ true → strip v (w ++ rest) ≡ None
strip-other [] w rest e = absurd (both_ways _ refl e)
strip-other (b ∷ v) [] rest e = absurd (both_ways _ refl e)
strip-other (b ∷ v) (c ∷ w) rest e =
    elim (c == b) as (λ t. cond t (differ v w) true ≡ true → cond t (strip v (w ++ rest)) None ≡ None) [
      | true ↦ λ h. strip-other v w rest h
      | false ↦ λ h. refl
    ] e

same_word-is : (v w : List ℕ) → same_word v w ≡ true → v ≡ w
same_word-is [] [] e = refl
same_word-is [] (c ∷ w) e = absurd (both_ways _ refl e)
same_word-is (b ∷ v) [] e = absurd (both_ways _ refl e)
same_word-is (b ∷ v) (c ∷ w) e =
    ap (λ x. x ∷ v) (eqb-true b c (and_parts _ _ e).0) ∙ ap (λ l. c ∷ l) (same_word-is v w (and_parts _ _ e).1)

one : {A : Type 0} (word : A → List ℕ) (first : A) (others : List A) (w rest : List ℕ) (a : A) (b c : Bool) → same_word (word first) w ≡ b → differ (word first) w ≡ c
    → cond b (Some first) (cond c (found word others w) None) ≡ Some a → (found word others w ≡ Some a → word_by word others (w ++ rest) ≡ Some (a, rest))
    → word_or first (strip (word first) (w ++ rest)) (word_by word others (w ++ rest)) ≡ Some (a, rest)
one word first others w rest a true c same other made more =
    ap (λ o. word_or first o (word_by word others (w ++ rest))) (ap (λ v. strip v (w ++ rest)) (same_word-is (word first) w same) ∙ strip-back w rest)
    ∙ ap (option_map (λ x. (x, rest))) made
one word first others w rest a false true same other made more =
    ap (λ o. word_or first o (word_by word others (w ++ rest))) (strip-other (word first) w rest other) ∙ more made
one word first others w rest a false false same other made more = absurd (none-some a made)

pub word-back : {A : Type 0} (word : A → List ℕ) (others : List A) (w rest : List ℕ) (a : A) → found word others w ≡ Some a → word_by word others (w ++ rest) ≡ Some (a, rest)
word-back word [] w rest a e = absurd (none-some a e)
word-back word (first ∷ others) w rest a e = one word first others w rest a _ _ refl refl e (word-back word others w rest a)

-- words one behind another, in front of what begins with none
pub words-same : {A : Type 0} (word : A → List ℕ) (all : List A) → ((a : A) → found word all (word a) ≡ Some a) → (xs ys : List A) (r s : List ℕ)
    → word_by word all r ≡ None → word_by word all s ≡ None → flat_map word xs ++ r ≡ flat_map word ys ++ s → (xs ≡ ys) × (r ≡ s)
words-same word all ok [] [] r s stop stop' e = (refl, e)
words-same word all ok [] (y ∷ ys) r s stop stop' e =
    absurd (none-some _ (sym stop ∙ ap (word_by word all) (e ∙ append_assoc (word y) (flat_map word ys) s) ∙ word-back word all (word y) (flat_map word ys ++ s) y (ok y)))
words-same word all ok (x ∷ xs) [] r s stop stop' e =
    absurd (none-some _ (sym stop' ∙ ap (word_by word all) (sym e ∙ append_assoc (word x) (flat_map word xs) r) ∙ word-back word all (word x) (flat_map word xs ++ r) x (ok x)))
words-same word all ok (x ∷ xs) (y ∷ ys) r s stop stop' e =
    let (heads, tails) = same_parts x y (flat_map word xs ++ r) (flat_map word ys ++ s)
    (sym (word-back word all (word x) (flat_map word xs ++ r) x (ok x)) ∙ ap (word_by word all) (sym (append_assoc (word x) (flat_map word xs) r) ∙ e ∙ append_assoc (word y) (flat_map word ys) s)
    ∙ word-back word all (word y) (flat_map word ys ++ s) y (ok y)) in
    let (more, rests) = words-same word all ok xs ys r s stop stop' tails in
    (ap (λ z. z ∷ xs) heads ∙ ap (λ l. y ∷ l) more, rests)
