-- Lists of what the passes know: sums over them, and facts of each.
use Rattle.std.proofs.Common.{◌≡◌, ◌≢◌, ℕ, zero, suc, ◌+◌, ◌≤◌, List, [], ◌∷◌, ◌++◌, length, set, sym, refl, ap, subst, ⊎_elim, arith}
use mathlib.Core.Option.{some, some-injective, some-ne-none}
use lib.ListN.{get_elem?}
use Rattle.crossbeam_queue.proofs.Lists.{at_set, at_snoc}
use Rattle.frame_ring.specs.Views.{Each, EachView, total}

module _ {X : Type 0} (P : X → Type 0) where
  pub each_append : (xs ys : List X) → Each P xs → Each P ys → Each P (xs ++ ys)
  each_append [] ys h k = k
  each_append (x ∷ xs) ys h k = (h.0, each_append xs ys h.1 k)

  pub each_as : (Q : X → Type 0) → ((x : X) → P x → Q x) → (xs : List X) → Each P xs → Each Q xs
  each_as Q f [] h = tt
  each_as Q f (x ∷ xs) h = (f x h.0, each_as Q f xs h.1)

-- a list of length 0
pub nothing : {X : Type 0} (xs : List X) → length xs ≡ 0 → xs ≡ []
nothing [] h = refl
nothing (x ∷ xs) h = absurd (omega arith)

-- the view at a place of a list of one
pub only : {V : Type 0} (a v : V) (i : ℕ) → get_elem? (a ∷ []) i ≡ some v → a ≡ v
only a v zero e = some-injective a v e
only a v (suc i) e = absurd (some-ne-none v (sym e))

pub only_set : {V : Type 0} (a v w : V) (i : ℕ) → get_elem? (a ∷ []) i ≡ some v → set (a ∷ []) i w ≡ w ∷ []
only_set a v w zero e = refl
only_set a v w (suc i) e = absurd (some-ne-none v (sym e))

module _ {V : Type 0} (f : V → ℕ) where
  pub total_set : (views : List V) (i : ℕ) (v w : V) → get_elem? views i ≡ some v → total f (set views i w) + f v ≡ total f views + f w
  total_set [] i v w e = absurd (some-ne-none v (sym e))
  total_set (x ∷ xs) zero v w e = let h : f x ≡ f v = ap f (some-injective x v e) in omega arith
  total_set (x ∷ xs) (suc i) v w e = let h = total_set xs i v w e in omega arith

  pub total_same : (views : List V) (i : ℕ) (v w : V) → get_elem? views i ≡ some v → f w ≡ f v → total f (set views i w) ≡ total f views
  total_same views i v w e h = let t = total_set views i v w e in omega arith

  total_snoc : (views : List V) (w : V) → total f (views ++ w ∷ []) ≡ total f views + f w
  total_snoc [] w = omega arith
  total_snoc (x ∷ xs) w = let h = total_snoc xs w in omega arith

  total_one : (views : List V) (i : ℕ) (v : V) → get_elem? views i ≡ some v → f v ≤ total f views
  total_one [] i v e = absurd (some-ne-none v (sym e))
  total_one (x ∷ xs) zero v e = let h : f x ≡ f v = ap f (some-injective x v e) in omega arith
  total_one (x ∷ xs) (suc i) v e = let h = total_one xs i v e in omega arith

  pub total_two : (views : List V) (i j : ℕ) (v w : V) → get_elem? views i ≡ some v → get_elem? views j ≡ some w → j ≢ i → f v + f w ≤ total f views
  total_two [] i j v w e d ne = absurd (some-ne-none v (sym e))
  total_two (x ∷ xs) zero zero v w e d ne = absurd (ne refl)
  total_two (x ∷ xs) zero (suc j) v w e d ne = let h : f x ≡ f v = ap f (some-injective x v e) in let k = total_one xs j w d in omega arith
  total_two (x ∷ xs) (suc i) zero v w e d ne = let h : f x ≡ f w = ap f (some-injective x w d) in let k = total_one xs i v e in omega arith
  total_two (x ∷ xs) (suc i) (suc j) v w e d ne = let h = total_two xs i j v w e d (λ q. ne (ap suc q)) in omega arith

  -- one view becomes two
  pub total_cut : (views : List V) (i : ℕ) (v w u : V) → get_elem? views i ≡ some v → f v ≡ f w + f u → total f (set views i w ++ u ∷ []) ≡ total f views
  total_cut views i v w u e h = let a = total_set views i v w e in let b = total_snoc (set views i w) u in omega arith

  -- two views become one, and the other counts nothing
  pub total_joined : (views : List V) (i j : ℕ) (v w both spent : V) → get_elem? views i ≡ some v → get_elem? (set views i both) j ≡ some w → f both ≡ f w + f v → f spent ≡ 0
      → total f (set (set views i both) j spent) ≡ total f views
  total_joined views i j v w both spent at there h nothing = let a = total_set views i v both at in let b = total_set (set views i both) j w spent there in omega arith

  total_zero : (views : List V) → EachView (λ v. f v ≡ 0) views → total f views ≡ 0
  total_zero [] h = refl
  total_zero (x ∷ xs) h = let a = h 0 x refl in let b = total_zero xs (λ j v e. h (suc j) v e) in omega arith

  -- where the others count nothing
  pub total_alone : (views : List V) (i : ℕ) (v : V) → get_elem? views i ≡ some v → ((j : ℕ) (w : V) → j ≢ i → get_elem? views j ≡ some w → f w ≡ 0) → total f views ≡ f v
  total_alone [] i v e h = absurd (some-ne-none v (sym e))
  total_alone (x ∷ xs) zero v e h = let a : f x ≡ f v = ap f (some-injective x v e) in let b = total_zero xs (λ j w t. h (suc j) w (λ q. absurd (omega arith)) t) in omega arith
  total_alone (x ∷ xs) (suc i) v e h = let a = h 0 x (λ q. absurd (omega arith)) refl in let b = total_alone xs i v e (λ j w ne t. h (suc j) w (λ q. ne (omega arith)) t) in omega arith

module _ {V : Type 0} (P Q : V → Type 0) where
  -- one view changes, and the others keep P as Q
  pub each_set : (views : List V) (i : ℕ) (w : V) → Q w → ((j : ℕ) (v : V) → j ≢ i → get_elem? views j ≡ some v → P v → Q v) → EachView P views → EachView Q (set views i w)
  each_set views i w q others h j v e = ⊎_elim (λ t. subst Q t.1 q) (λ t. others j v t.0 t.1 (h j v t.1)) (at_set views i j w v e)

module _ {V : Type 0} (P : V → Type 0) where
  pub each_snoc : (views : List V) (w : V) → EachView P views → P w → EachView P (views ++ w ∷ [])
  each_snoc views w h p j v e = ⊎_elim (λ t. h j v t) (λ t. subst P t p) (at_snoc views w v j e)
