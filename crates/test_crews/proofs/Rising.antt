-- Numbers that rise, with one more behind them.
use Rattle.std.proofs.Common.{◌≡◌, ℕ, ◌+◌, ◌<◌, ◌≤◌, List, [], ◌∷◌, ◌++◌, map, length, get_or, All, sym, ap, ◌∙◌, subst, add-zero, ⊎_elim, length-append, arith}
use Rattle.std.specs.List.Sorted.{IsStrictlyIncreasing}
use Rattle.std.proofs.lemmas.Bool.Decides.{eqb_tells}
use Rattle.std.proofs.lemmas.List.{get_or_append_left, get_or-append-add, map-append}
use Rattle.std.proofs.lemmas.List.Elements.{All-push, All-weaker}
use Rattle.flow_calls.specs.declared.parcel.Parcel.{Parcel}
use Rattle.test_crews.specs.Shares.{numbers}

rising_push : (xs : List ℕ) (n : ℕ) → IsStrictlyIncreasing xs → All (λ m. m < n) xs → IsStrictlyIncreasing (xs ++ n ∷ [])
rising_push xs n rising below k lt =
    let long = length-append xs (n ∷ []) in
    let here = get_or_append_left xs (n ∷ []) 0 k (omega (arith, lt, long)) in
    ⊎_elim
    (λ last.
    let is = last.1 in
    let next : get_or (xs ++ n ∷ []) (k + 1) 0 ≡ n = ap (λ i. get_or (xs ++ n ∷ []) i 0) (is ∙ sym (add-zero (length xs))) ∙ get_or-append-add xs (n ∷ []) 0 0 in
    let under = below k 0 (omega (arith, is)) in
    omega (arith, here, next, under))
    (λ else.
    let ne = else.1 in
    let within : k + 1 < length xs = omega (arith, lt, long) in
    let next = get_or_append_left xs (n ∷ []) 0 (k + 1) within in
    let step = rising k within in
    omega (arith, here, next, step))
    (eqb_tells (k + 1) (length xs))

-- Frames of a share that were taken: their numbers rise, from a first one on, and are below the share's next one
pub record AreTaken (first next : ℕ) (parcels : List Parcel) : Type 0 where
  pub rising : IsStrictlyIncreasing (numbers parcels)
  pub from : All (λ n. first ≤ n) (numbers parcels)
  pub below : All (λ n. n < next) (numbers parcels)
  pub count : first + length parcels ≤ next

-- and one more
pub taken_push : (first next later : ℕ) (old new : List Parcel) (p : Parcel) → AreTaken first next old → new ≡ old ++ p ∷ [] → p.number ≡ next → next < later → AreTaken first later new
taken_push first next later old new p taken added at more =
    let same : numbers new ≡ numbers old ++ p.number ∷ [] = ap numbers added ∙ map-append (λ (q : Parcel). q.number) old (p ∷ []) in
    let long = length-append old (p ∷ []) in
    let count = taken.count in
    record {
      rising = subst IsStrictlyIncreasing (sym same) (rising_push (numbers old) p.number taken.rising (subst (λ n. All (λ m. m < n) (numbers old)) (sym at) taken.below));
      from = subst (All (λ n. first ≤ n)) (sym same) (All-push (λ n. first ≤ n) (numbers old) p.number taken.from (omega (arith, at, count)));
      below = subst (All (λ n. n < later)) (sym same)
          (All-push (λ n. n < later) (numbers old) p.number (All-weaker (λ n. n < next) (λ n. n < later) (λ n lt. omega (arith, lt, more)) (numbers old) taken.below) (omega (arith, at, more)));
      count = omega (arith, count, long, ap length added, more);
    }
