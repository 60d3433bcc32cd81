-- The list of free places, and what keeps it.
use Rattle.std.proofs.Common.{◌≡◌, ◌≢◌, ℕ, zero, suc, ◌+◌, ◌<◌, List, [], ◌∷◌, ◌++◌, length, set, Option, Some, refl, ap, subst, ◌∙◌, arith, length-set, slice_get}
use Rattle.std.proofs.lemmas.List.{get_or-set_other}
use Rattle.std.proofs.lemmas.Option.{slice_get_within, slice_get-get_or, get_or_from_slice_get}
use Rattle.slot_pool.specs.declared.place.Place.{Place}
use Rattle.slot_pool.specs.declared.place.Place.TheVariants.{Free, Filled}
use Rattle.slot_pool.specs.declared.place.Resident.{Resident}
use Rattle.slot_pool.specs.Place.{IsFreeList}

pub slice_get-append_left : {X : Type 0} (xs ys : List X) (i : ℕ) (x : X) → slice_get xs i ≡ Some x → slice_get (xs ++ ys) i ≡ Some x
slice_get-append_left [] ys i x found = absurd (cc)
slice_get-append_left (y ∷ xs) ys zero x found = found
slice_get-append_left (y ∷ xs) ys (suc i) x found = slice_get-append_left xs ys i x found

pub slice_get-push : {X : Type 0} (xs : List X) (x : X) → slice_get (xs ++ x ∷ []) (length xs) ≡ Some x
slice_get-push [] x = refl
slice_get-push (y ∷ xs) x = slice_get-push xs x

module _ {T : Type 0} where
  pub IsFreeList-count : (ps : List (Place T)) (m n : ℕ) (head : Option ℕ) → IsFreeList ps m head → IsFreeList ps n head → m ≡ n
  IsFreeList-count ps zero zero head p q = refl
  IsFreeList-count ps zero (suc n) head p q = let some = q.2 in absurd (cc)
  IsFreeList-count ps (suc m) zero head p q = let some = p.2 in absurd (cc)
  IsFreeList-count ps (suc m) (suc n) head p q =
      let first = p.2 in
      let second = q.2 in
      let index : q.0 ≡ p.0 = cc in
      let here = p.3 in
      let there : slice_get ps p.0 ≡ Some (Free q.1) = subst (λ (i : ℕ). slice_get ps i ≡ Some (Free q.1)) index q.3 in
      let next : q.1 ≡ p.1 = cc in
      ap suc (IsFreeList-count ps m n p.1 p.4 (subst (IsFreeList ps n) next q.4))

  -- a write at a place that is not on the list keeps the list
  pub IsFreeList-set : (ps : List (Place T)) (at : ℕ) (place : Place T) (n : ℕ) (head : Option ℕ) → ((m : ℕ) → m < n → IsFreeList ps (suc m) (Some at) → ⊥) → IsFreeList ps n head → IsFreeList (set ps at place) n head
  IsFreeList-set ps at place zero head off p = p
  IsFreeList-set ps at place (suc n) head off p =
      let other : p.0 ≢ at = λ same. off n (omega arith) (subst (IsFreeList ps (suc n)) (p.2 ∙ ap Some same) p) in
      let inside = slice_get_within ps p.0 _ p.3 in
      let kept : slice_get (set ps at place) p.0 ≡ Some (Free p.1) =
      slice_get-get_or (set ps at place) p.0 place (omega (arith, length-set ps at place))
      ∙ ap Some (get_or-set_other ps at p.0 place place other ∙ get_or_from_slice_get ps p.0 _ place p.3) in
      (p.0, p.1, p.2, kept, IsFreeList-set ps at place n p.1 (λ m below. off m (omega arith)) p.4)

  -- a filled place is on no list of free ones
  pub filled_is_off : (ps : List (Place T)) (at : ℕ) (held : Resident T) → slice_get ps at ≡ Some (Filled held) → (m : ℕ) → IsFreeList ps (suc m) (Some at) → ⊥
  filled_is_off ps at held found m p =
      let same = p.2 in
      let index : at ≡ p.0 = cc in
      let there : slice_get ps at ≡ Some (Free p.1) = ap (slice_get ps) index ∙ p.3 in
      cc

  -- the head of a list is not on the rest of it
  pub head_is_off : (ps : List (Place T)) (count at : ℕ) (next : Option ℕ) → slice_get ps at ≡ Some (Free next) → IsFreeList ps count next → (m : ℕ) → m < count → IsFreeList ps (suc m) (Some at) → ⊥
  head_is_off ps count at next found rest m less p =
      let whole : IsFreeList ps (suc count) (Some at) = (at, next, refl, found, rest) in
      let same = IsFreeList-count ps (suc m) (suc count) (Some at) p whole in
      omega arith

  pub IsFreeList-append : (ps qs : List (Place T)) (n : ℕ) (head : Option ℕ) → IsFreeList ps n head → IsFreeList (ps ++ qs) n head
  IsFreeList-append ps qs zero head p = p
  IsFreeList-append ps qs (suc n) head p =
      (p.0, p.1, p.2, slice_get-append_left ps qs p.0 _ p.3, IsFreeList-append ps qs n p.1 p.4)

  -- one more free place at the end comes first
  pub IsFreeList-push : (ps : List (Place T)) (n : ℕ) (head : Option ℕ) → IsFreeList ps n head → IsFreeList (ps ++ Free head ∷ []) (n + 1) (Some (length ps))
  IsFreeList-push ps n head p =
      let one : n + 1 ≡ suc n = omega arith in
      rw one (length ps, head, refl, slice_get-push ps (Free head), IsFreeList-append ps _ n head p)
