-- One more result is counted.
use Rattle.std.proofs.Common.{◌≡◌, ℕ, ◌+◌, Bool, cond, List, take, count_by, slice_get, Some, ap, ◌∙◌}
use Rattle.std.proofs.lemmas.List.Sums.{sum_by_more}
use Rattle.std.proofs.lemmas.Option.{slice_get_within, get_or_from_slice_get}

pub count_by-next : {X : Type 0} (p : X → Bool) (xs : List X) (i : ℕ) (x : X) → slice_get xs i ≡ Some x
    → count_by p (take (i + 1) xs) ≡ count_by p (take i xs) + cond (p x) 1 0
count_by-next p xs i x is =
    sum_by_more (λ y. cond (p y) 1 0) xs i x (slice_get_within xs i x is) ∙ ap (λ y. count_by p (take i xs) + cond (p y) 1 0) (get_or_from_slice_get xs i x x is)
