-- The steps of a pull, which moves the results one at a time.
use Rattle.std.proofs.Common.{◌≡◌, ℕ, ◌+◌, ◌<◌, ◌≤◌, ◌∙◌, sym, List, [], ◌∷◌, ◌++◌, length, take, drop, slice_get, Some, None, arith, drop-drop, take_all}
use Rattle.std.proofs.lemmas.List.{drop_all}
use Rattle.std.proofs.lemmas.Grind.{common_steps}
use Rattle.std.proofs.lemmas.Option.{gets}

module _ {X : Type 0} where
  -- the next item goes behind the first k
  pub take-more : (xs : List X) (k : ℕ) (x : X) → slice_get (drop k xs) 0 ≡ Some x → take k xs ++ x ∷ [] ≡ take (k + 1) xs
  take-more xs k x h = grind (arith, common_steps, gets)

  pub take-at : (xs : List X) (k : ℕ) (x : X) → slice_get xs k ≡ Some x → take k xs ++ x ∷ [] ≡ take (k + 1) xs
  take-at xs k x h = grind (arith, common_steps, gets)

  -- where no item is left, the first k are all
  length-past : (xs : List X) (k : ℕ) → slice_get (drop k xs) 0 ≡ None → length xs ≤ k
  length-past xs k h = grind (arith, common_steps, gets)

  pub take-past : (xs : List X) (k n : ℕ) → slice_get (drop k xs) 0 ≡ None → k < n → take k xs ≡ take n xs
  take-past xs k n h below =
      take_all k xs (length-past xs k h) ∙ sym (take_all n xs (omega (arith, length-past xs k h, below)))

  pub drop-past : (xs : List X) (k n : ℕ) → slice_get (drop k xs) 0 ≡ None → k < n → drop 1 (drop k xs) ≡ drop n xs
  drop-past xs k n h below = drop-drop 1 k xs ∙ drop_all (k + 1) xs (omega (arith, length-past xs k h)) ∙ sym (drop_all n xs (omega (arith, length-past xs k h, below)))
