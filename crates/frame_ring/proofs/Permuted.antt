-- From equal sums to a permutation: a row of frames is any list that has each frame as often, in another order.
use Rattle.std.proofs.Common.{◌≡◌, ◌≢◌, ℕ, zero, suc, ◌+◌, ◌<◌, ◌≤◌, ◌==◌, Bool, true, false, cond, List, [], ◌∷◌, ◌++◌, length, get_or, sym, refl, ap, ◌∙◌, subst, ⊎_elim, arith}
use Rattle.std.specs.List.{sum_by}
use Rattle.std.specs.List.Sorted.{IsPermutation}
use Rattle.std.proofs.lemmas.Bool.Decides.{eqb_tells}
use Rattle.std.proofs.lemmas.List.Sums.{sum_by-cons, sum_by-append}
use Rattle.std.proofs.lemmas.List.Sorted.{IsPermutation-refl, IsPermutation-sym, IsPermutation-cons, IsPermutation-trans, IsPermutation-middle}
use Rattle.frame_ring.specs.Frame.{Frame}
use Rattle.frame_ring.specs.Rows.{IsRow}

module _ {X : Type 0} (key : X → ℕ) (separates : (x y : X) → ((g : X → ℕ) → g x ≡ g y) → x ≡ y) where
  -- the keys rise, and are greater than n
  abbrev Above : ℕ → List X → Type 0
  Above n [] = Unit {0}
  Above n (x ∷ xs) = (n < key x) × Above (key x) xs

  -- g of the elements of that key, and 0 of the others
  abbrev at : ℕ → (X → ℕ) → X → ℕ
  at k g x = cond (key x == k) (g x) 0

  at_same : (k : ℕ) (g : X → ℕ) (x : X) → key x ≡ k → at k g x ≡ g x
  at_same k g x e = ⊎_elim (λ same. ap (λ b. cond b (g x) 0) same.0) (λ differ. absurd (differ.1 e)) (eqb_tells (key x) k)

  at_else : (k : ℕ) (g : X → ℕ) (x : X) → key x ≢ k → at k g x ≡ 0
  at_else k g x ne = ⊎_elim (λ same. absurd (ne same.1)) (λ differ. ap (λ b. cond b (g x) 0) differ.0) (eqb_tells (key x) k)

  none_below : (n k : ℕ) (g : X → ℕ) (xs : List X) → Above n xs → k ≤ n → sum_by (at k g) xs ≡ 0
  none_below n k g [] rise le = refl
  none_below n k g (x ∷ xs) rise le =
      let lt = rise.0 in
      let here = at_else k g x (λ e. absurd (omega arith)) in
      let rest = none_below (key x) k g xs rise.1 (omega arith) in
      let all = sum_by-cons (at k g) x xs in
      omega arith

  none_at : (k : ℕ) (g : X → ℕ) (xs : List X) → sum_by (at k (λ x. 1)) xs ≡ 0 → sum_by (at k g) xs ≡ 0
  none_at k g [] none = refl
  none_at k g (x ∷ xs) none =
      let one = sum_by-cons (at k (λ y. 1)) x xs in
      let all = sum_by-cons (at k g) x xs in
      ⊎_elim
      (λ same. let h = at_same k (λ y. 1) x same.1 in absurd (omega arith))
      (λ differ.
      let h = at_else k (λ y. 1) x differ.1 in
      let here = at_else k g x differ.1 in
      let rest = none_at k g xs (omega arith) in
      omega arith)
      (eqb_tells (key x) k)

  find : (k : ℕ) (ys : List X) → 0 < sum_by (at k (λ x. 1)) ys → (us : List X) × ((y : X) × ((vs : List X) × ((ys ≡ us ++ y ∷ vs) × (key y ≡ k))))
  find k [] some = absurd (omega arith)
  find k (y ∷ ys) some =
      let all = sum_by-cons (at k (λ x. 1)) y ys in
      ⊎_elim
      (λ same. ([], (y, (ys, (refl, same.1)))))
      (λ differ.
      let h = at_else k (λ x. 1) y differ.1 in
      let r = find k ys (omega arith) in
      (y ∷ r.0, (r.1.0, (r.1.1.0, (ap (λ l. y ∷ l) r.1.1.1.0, r.1.1.1.1)))))
      (eqb_tells (key y) k)

  nothing_left : (ys : List X) → sum_by (λ x. 1) ys ≡ 0 → IsPermutation [] ys
  nothing_left [] none = IsPermutation-refl []
  nothing_left (y ∷ ys) none = let all = sum_by-cons (λ (z : X). 1) y ys in absurd (omega arith)

  pub IsPermutation-from_sums : (n : ℕ) (xs ys : List X) → Above n xs → ((h : X → ℕ) → sum_by h xs ≡ sum_by h ys) → IsPermutation xs ys
  IsPermutation-from_sums n [] ys rise sums = nothing_left ys (sym (sums (λ x. 1)))
  IsPermutation-from_sums n (x ∷ xs) ys rise sums =
      let k = key x in
      let left : (g : X → ℕ) → sum_by (at k g) (x ∷ xs) ≡ g x
      = λ g. let all = sum_by-cons (at k g) x xs in let here = at_same k g x refl in let rest = none_below k k g xs rise.1 (omega arith) in omega arith in
      let some : 0 < sum_by (at k (λ y. 1)) ys = let a = sums (at k (λ y. 1)) in let b = left (λ y. 1) in omega arith in
      let f = find k ys some in
      let us = f.0 in
      let y = f.1.0 in
      let vs = f.1.1.0 in
      let is : ys ≡ us ++ y ∷ vs = f.1.1.1.0 in
      let same_key : key y ≡ k = f.1.1.1.1 in
      let right : (h : X → ℕ) → sum_by h ys ≡ sum_by h us + (h y + sum_by h vs)
      = λ h. ap (sum_by h) is ∙ sum_by-append h us (y ∷ vs) ∙ ap (λ m. sum_by h us + m) (sum_by-cons h y vs) in
      let alone : (sum_by (at k (λ z. 1)) us ≡ 0) × (sum_by (at k (λ z. 1)) vs ≡ 0)
      = let a = sums (at k (λ z. 1)) in let b = left (λ z. 1) in let c = right (at k (λ z. 1)) in let d = at_same k (λ z. 1) y same_key in (omega arith, omega arith) in
      let same : x ≡ y
      = separates x y (λ g. let a = sums (at k g) in let b = left g in let c = right (at k g) in let d = at_same k g y same_key in let u = none_at k g us alone.0 in let v = none_at k g vs alone.1 in omega arith) in
      let rest : (h : X → ℕ) → sum_by h xs ≡ sum_by h (us ++ vs)
      = λ h. let a = sums h in let b = sum_by-cons h x xs in let c = right h in let d = ap h same in let e = sum_by-append h us vs in omega arith in
      subst (IsPermutation (x ∷ xs)) (sym is)
      (subst (λ z. IsPermutation (x ∷ xs) (us ++ z ∷ vs)) same
      (IsPermutation-trans (x ∷ xs) (x ∷ (us ++ vs)) (us ++ x ∷ vs)
      (IsPermutation-cons x xs (us ++ vs) (IsPermutation-from_sums k xs (us ++ vs) rise.1 rest))
      (IsPermutation-sym (us ++ x ∷ vs) (x ∷ (us ++ vs)) (IsPermutation-middle us x vs))))

-- ---- frames

same_list : (xs ys : List ℕ) → length xs ≡ length ys → ((i : ℕ) → get_or xs i 0 ≡ get_or ys i 0) → xs ≡ ys
same_list [] [] e same = refl
same_list [] (y ∷ ys) e same = absurd (omega arith)
same_list (x ∷ xs) [] e same = absurd (omega arith)
same_list (x ∷ xs) (y ∷ ys) e same = ap (λ l. x ∷ l) (same_list xs ys (omega arith) (λ i. same (suc i))) ∙ ap (λ z. z ∷ ys) (same 0)

same_flag : (a b : Bool) → ◌≡◌ {A = ℕ} (cond a 1 0) (cond b 1 0) → a ≡ b
same_flag true true e = refl
same_flag true false e = absurd (omega arith)
same_flag false true e = absurd (omega arith)
same_flag false false e = refl

frames_separate : (x y : Frame) → ((g : Frame → ℕ) → g x ≡ g y) → x ≡ y
frames_separate x y same =
    ap (λ n. record x { number = n }) (same (λ f. f.number))
    ∙ ap (λ n. record x { number = y.number; len = n }) (same (λ f. f.len))
    ∙ ap (λ n. record x { number = y.number; len = y.len; wire_len = n }) (same (λ f. f.wire_len))
    ∙ ap (λ n. record x { number = y.number; len = y.len; wire_len = y.wire_len; seconds = n }) (same (λ f. f.seconds))
    ∙ ap (λ n. record x { number = y.number; len = y.len; wire_len = y.wire_len; seconds = y.seconds; part = n }) (same (λ f. f.part))
    ∙ ap (λ b. record x { number = y.number; len = y.len; wire_len = y.wire_len; seconds = y.seconds; part = y.part; nano = b }) (same_flag x.nano y.nano (same (λ f. cond f.nano 1 0)))
    ∙ ap (λ l. record y { bytes = l }) (same_list x.bytes y.bytes (same (λ f. length f.bytes)) (λ i. same (λ f. get_or f.bytes i 0)))

above_from_row : (n : ℕ) (fs : List Frame) → IsRow n fs → Above (λ (f : Frame). f.number) frames_separate n fs
above_from_row n [] row = tt
above_from_row n (f ∷ fs) row = (row.0, above_from_row f.number fs row.2)

-- a row and any list with as many of each frame
pub IsPermutation-row : (n : ℕ) (row others : List Frame) → IsRow n row → ((h : Frame → ℕ) → sum_by h row ≡ sum_by h others) → IsPermutation row others
IsPermutation-row n row others rise = IsPermutation-from_sums (λ (f : Frame). f.number) frames_separate n row others (above_from_row n row rise)
