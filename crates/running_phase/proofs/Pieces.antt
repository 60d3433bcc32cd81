-- A list, dealt out by a key of its elements: the pieces one behind the other are the list in another order.
use Rattle.std.proofs.Common.{◌≡◌, ◌≢◌, ℕ, zero, suc, ◌+◌, ◌<◌, ◌≤◌, ◌==◌, cond, List, [], ◌∷◌, ◌++◌, map, filter, All, sym, refl, ap, ◌∙◌, subst, ⊎_elim, eq-eqb, ne_eqb, arith}
use Rattle.std.specs.List.Sorted.{IsPermutation}
use Rattle.std.proofs.lemmas.List.{map-append}
use Rattle.std.proofs.lemmas.Bool.Decides.{eqb_tells}
use Rattle.std.proofs.lemmas.List.Elements.{All-head, All-tail}
use Rattle.std.proofs.lemmas.List.Sorted.{IsPermutation-refl, IsPermutation-sym, IsPermutation-trans, IsPermutation-cons, IsPermutation-append_right, IsPermutation-middle}

-- what f gives for `n` numbers from `a` on, one behind the other
abbrev pub pieces : {X : Type 0} → (ℕ → List X) → ℕ → ℕ → List X
pieces f a zero = []
pieces f a (suc n) = f a ++ pieces f (a + 1) n

pub pieces_agree : {X : Type 0} (f g : ℕ → List X) (a n : ℕ) → ((k : ℕ) → a ≤ k → f k ≡ g k) → pieces f a n ≡ pieces g a n
pieces_agree f g a zero same = refl
pieces_agree f g a (suc n) same =
    ap (λ l. l ++ pieces f (a + 1) n) (same a (omega arith)) ∙ ap (λ l. g a ++ l) (pieces_agree f g (a + 1) n (λ k low. same k (omega arith)))

pub map-pieces : {X Y : Type 0} (h : X → Y) (f : ℕ → List X) (a n : ℕ) → map h (pieces f a n) ≡ pieces (λ k. map h (f k)) a n
map-pieces h f a zero = refl
map-pieces h f a (suc n) = map-append h (f a) (pieces f (a + 1) n) ∙ ap (λ l. map h (f a) ++ l) (map-pieces h f (a + 1) n)

module _ {X : Type 0} (key : X → ℕ) where
  -- those of one key
  abbrev pub piece : List X → ℕ → List X
  piece xs k = filter (λ x. key x == k) xs

  none_dealt : (a n : ℕ) → pieces (piece []) a n ≡ []
  none_dealt a zero = refl
  none_dealt a (suc n) = none_dealt (a + 1) n

  piece_with : (x : X) (xs : List X) (k : ℕ) → key x ≡ k → piece (x ∷ xs) k ≡ x ∷ piece xs k
  piece_with x xs k same = ap (λ b. cond b (x ∷ piece xs k) (piece xs k)) (eq-eqb (key x) k same)

  piece_without : (x : X) (xs : List X) (k : ℕ) → key x ≢ k → piece (x ∷ xs) k ≡ piece xs k
  piece_without x xs k other = ap (λ b. cond b (x ∷ piece xs k) (piece xs k)) (ne_eqb (key x) k other)

  -- one more element goes to its piece
  one_more : (x : X) (xs : List X) (a n : ℕ) → a ≤ key x → key x < a + n → IsPermutation (x ∷ pieces (piece xs) a n) (pieces (piece (x ∷ xs)) a n)
  one_more x xs a zero low high = absurd (omega arith)
  one_more x xs a (suc n) low high =
      let here = piece xs a in
      let later = pieces (piece xs) (a + 1) n in
      ⊎_elim
      (λ first.
      let others : later ≡ pieces (piece (x ∷ xs)) (a + 1) n = pieces_agree (piece xs) (piece (x ∷ xs)) (a + 1) n (λ k above. sym (piece_without x xs k (λ e. let at = first.1 in absurd (omega arith)))) in
      subst (IsPermutation (x ∷ (here ++ later))) (ap (λ l. l ++ later) (sym (piece_with x xs a first.1)) ∙ ap (λ l. piece (x ∷ xs) a ++ l) others) (IsPermutation-refl (x ∷ (here ++ later))))
      (λ else.
      let ne = else.1 in
      let rest = one_more x xs (a + 1) n (omega arith) (omega arith) in
      subst (λ l. IsPermutation (x ∷ (here ++ later)) (l ++ pieces (piece (x ∷ xs)) (a + 1) n)) (sym (piece_without x xs a ne))
      (IsPermutation-trans (x ∷ (here ++ later)) (here ++ x ∷ later) (here ++ pieces (piece (x ∷ xs)) (a + 1) n)
      (IsPermutation-sym (here ++ x ∷ later) (x ∷ (here ++ later)) (IsPermutation-middle here x later))
      (IsPermutation-append_right here (x ∷ later) (pieces (piece (x ∷ xs)) (a + 1) n) rest)))
      (eqb_tells (key x) a)

  -- where all keys are within the numbers, nothing is lost
  pub IsPermutation-pieces : (a n : ℕ) (xs : List X) → All (λ x. (a ≤ key x) × (key x < a + n)) xs → IsPermutation xs (pieces (piece xs) a n)
  IsPermutation-pieces a n [] within = subst (IsPermutation []) (sym (none_dealt a n)) (IsPermutation-refl [])
  IsPermutation-pieces a n (x ∷ xs) within =
      let P : X → Type 0 = λ x. (a ≤ key x) × (key x < a + n) in
      let here = All-head P x xs within in
      IsPermutation-trans (x ∷ xs) (x ∷ pieces (piece xs) a n) (pieces (piece (x ∷ xs)) a n)
      (IsPermutation-cons x xs (pieces (piece xs) a n) (IsPermutation-pieces a n xs (All-tail P x xs within)))
      (one_more x xs a n here.0 here.1)
