-- What a walk along a chain finds.
use Rattle.std.proofs.Common.{◌≡◌, ℕ, zero, suc, ◌+◌, List, [], ◌∷◌, Option, Some, None, refl, ap, ◌∙◌, arith, Contains, slice_get, IfSome}
use Rattle.std.proofs.lemmas.Option.{slice_get_within, slice_get-get_or, get_or_from_slice_get}
use Rattle.slot_pool.specs.declared.handle.Handle.{Handle}
use Rattle.slot_pool.specs.declared.chain.Chain.{Chain}
use Rattle.slot_pool.specs.declared.chain.Link.{Link}
use Rattle.slot_pool.specs.declared.place.Place.{Place}
use Rattle.slot_pool.specs.Links.{link_of, next_of, members, first_or, Joins, IsChain}
use Rattle.slot_pool.specs.Pool.{Lives}
use Rattle.slot_pool.specs.Place.{links_from, pool_of, IsSound}
use Rattle.slot_pool.proofs.Joined.{Joins-linked}
use Rattle.slot_pool.proofs.WithLink.{held_from_link, lives_from_held}

pub first_or-slice_get : (xs : List Handle) → first_or xs None ≡ slice_get xs 0
first_or-slice_get [] = refl
first_or-slice_get (x ∷ xs) = refl

pub next_of-joined : (at : Handle → Option Link) (before : Option Handle) (xs : List Handle) (i : ℕ) (q : Handle) → Joins at before xs None → slice_get xs i ≡ Some q → next_of (at q) ≡ slice_get xs (i + 1)
next_of-joined at before [] i q joined found = absurd (cc)
next_of-joined at before (x ∷ xs) zero q joined found =
    let same : q ≡ x = cc in
    ap (λ (h : Handle). next_of (at h)) same ∙ ap next_of joined.0 ∙ first_or-slice_get xs
next_of-joined at before (x ∷ xs) (suc i) q joined found =
    let shift : suc i + 1 ≡ suc (i + 1) = omega arith in
    rw shift (next_of-joined at (Some x) xs i q joined.1 found)

pub slice_get-Contains : (xs : List Handle) (i : ℕ) (q : Handle) → slice_get xs i ≡ Some q → Contains xs q
slice_get-Contains xs i q found = (i, slice_get_within xs i q found, get_or_from_slice_get xs i q q found)

pub Contains-slice_get : (xs : List Handle) (q : Handle) → Contains xs q → (i : ℕ) × (slice_get xs i ≡ Some q)
Contains-slice_get xs q p = (p.0, slice_get-get_or xs p.0 q p.1 ∙ ap Some p.2)

pub IfSome-from : (o : Option Handle) (P : Handle → Type 0) → ((q : Handle) → o ≡ Some q → P q) → IfSome o P
IfSome-from None P each = tt
IfSome-from (Some q) P each = each q refl

pub place_member : (xs : List Handle) (i : ℕ) → IfSome (slice_get xs i) (Contains xs)
place_member xs i = IfSome-from (slice_get xs i) (Contains xs) (λ q found. slice_get-Contains xs i q found)

module _ {T : Type 0} (ps : List (Place T)) (free : Option ℕ) (puts : ℕ) (sound : IsSound ps free puts) where
  -- each member lives
  pub member_lives : (chain : Chain) (q : Handle) → IsChain (links_from 0 ps) chain → Contains (members (links_from 0 ps) chain) q → Lives (pool_of ps puts) q
  member_lives chain q is_chain p =
      let link = Joins-linked (link_of (links_from 0 ps)) None (members (links_from 0 ps) chain) None q is_chain.joined p in
      let held = held_from_link ps q link.0 link.1 in
      lives_from_held ps free puts q held.0 sound held.1

  pub place_lives : (chain : Chain) (i : ℕ) → IsChain (links_from 0 ps) chain → IfSome (slice_get (members (links_from 0 ps) chain) i) (λ q. Lives (pool_of ps puts) q)
  place_lives chain i is_chain =
      IfSome-from (slice_get (members (links_from 0 ps) chain) i) (λ q. Lives (pool_of ps puts) q) (λ q found. member_lives chain q is_chain (slice_get-Contains _ i q found))
