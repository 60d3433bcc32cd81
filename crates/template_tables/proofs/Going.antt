-- A step over tables.
use Rattle.std.proofs.Common.{◌≡◌, ◌∙◌, ℕ, ◌+◌, Bool, true, false, ◌||◌, List, ◌∷◌, take, drop, slice_get, Some, sym, ap, sum_by}
use Rattle.std.specs.List.{list_any}
use Rattle.std.proofs.lemmas.List.{drop_more}
use Rattle.std.proofs.lemmas.List.Sums.{sum_by_more}
use Rattle.std.proofs.lemmas.Option.{get_or_from_slice_get, slice_get_within}

module _ {X : Type 0} (xs : List X) (place : ℕ) (x : X) (at : slice_get xs place ≡ Some x) where
  split : drop place xs ≡ x ∷ drop (place + 1) xs
  split = drop_more xs place x (slice_get_within xs place x at) ∙ ap (λ y. y ∷ drop (place + 1) xs) (get_or_from_slice_get xs place x x at)

module _ {X : Type 0} (test : X → Bool) (xs : List X) (place : ℕ) (x : X) (at : slice_get xs place ≡ Some x) where
  -- this one passes
  pub any_here : test x ≡ true → list_any test (drop place xs) ≡ true
  any_here passes = ap (list_any test) (split xs place x at) ∙ ap (λ b. b || list_any test (drop (place + 1) xs)) passes

  -- this one doesn't
  pub any_behind : test x ≡ false → list_any test (drop (place + 1) xs) ≡ list_any test (drop place xs)
  any_behind fails = sym (ap (list_any test) (split xs place x at) ∙ ap (λ b. b || list_any test (drop (place + 1) xs)) fails)

-- a sum goes on
pub sum_behind : {X : Type 0} (f : X → ℕ) (xs : List X) (place : ℕ) (x : X) → slice_get xs place ≡ Some x → sum_by f (take (place + 1) xs) ≡ sum_by f (take place xs) + f x
sum_behind f xs place x at =
    sum_by_more f xs place x (slice_get_within xs place x at) ∙ ap (λ y. sum_by f (take place xs) + f y) (get_or_from_slice_get xs place x x at)
