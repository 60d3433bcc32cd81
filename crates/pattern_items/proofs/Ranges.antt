-- A test on each of some numbers in a row.
use Rattle.std.proofs.Common.{◌≡◌, ℕ, ◌+◌, ◌<◌, zero, suc, Bool, true, false, refl, ◌∙◌, ap, arith, zero-add}
use Rattle.std.specs.List.{list_any, range_with_len}
use Rattle.std.proofs.lemmas.List.FromFn.{get_or-range_with_len, length-range_with_len}
use Rattle.std.proofs.lemmas.List.Folds.{list_any_at}

pub any_at : (p : ℕ → Bool) (n k : ℕ) → p k ≡ true → k < n → list_any p (range_with_len 0 n) ≡ true
any_at p n k e h =
    list_any_at p (range_with_len 0 n) k 0 (omega (arith, length-range_with_len 0 n)) (ap p (get_or-range_with_len 0 n k 0 h ∙ zero-add k) ∙ e)

any_below : (p : ℕ → Bool) (a n : ℕ) → ((k : ℕ) → k < a + n → p k ≡ false) → list_any p (range_with_len a n) ≡ false
any_below p a zero none = refl
any_below p a (suc n) none =
    rw (none a (omega arith)) (any_below p (a + 1) n (λ k h. none k (omega arith)))

pub any_none : (p : ℕ → Bool) (n : ℕ) → ((k : ℕ) → k < n → p k ≡ false) → list_any p (range_with_len 0 n) ≡ false
any_none p n none = any_below p 0 n (λ k h. none k (omega arith))
