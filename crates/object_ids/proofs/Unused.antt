-- Ids in use, counted.
use Rattle.std.proofs.Common.{◌≡◌, ◌<◌, ◌≤◌, ◌+◌, ◌∙◌, ℕ, zero, suc, false, List, length, is_some, IsSome, if◌then◌else◌, subst, sym, ap, inl, inr, arith}
use Rattle.std.specs.Map.{keys_of, lookup}
use Rattle.std.specs.Prelude.{nat_eq}
use Rattle.std.proofs.lemmas.Bool.{cases_lt}
use Rattle.std.proofs.lemmas.Map.Entries.{length-keys_of}
use Rattle.std.proofs.lemmas.Map.Made.{is_some-lookup}
use Rattle.std.proofs.lemmas.Map.Steps.{le-length_from_below}
use Rattle.object_ids.specs.Ids.{is_used, IsLeastUnused, unused_from, least_unused}

module _ {T : Type 0} where
  -- where each id below n is in use, there are at least n objects
  pub room_below : (objects : List (ℕ × T)) (n : ℕ) → ((k : ℕ) → k < n → IsSome (lookup (nat_eq k) objects)) → n ≤ length objects
  room_below objects n used =
      subst (λ l. n ≤ l) (length-keys_of objects) (le-length_from_below (keys_of objects) n (λ q below. sym (is_some-lookup (nat_eq q) objects) ∙ used q below))

  -- where n is in use too, there is one more
  pub room_at : (objects : List (ℕ × T)) (n : ℕ) → ((k : ℕ) → k < n → IsSome (lookup (nat_eq k) objects)) → IsSome (lookup (nat_eq n) objects) → n + 1 ≤ length objects
  room_at objects n used here = room_below objects (n + 1) (λ k below. elim (cases_lt k n) [
    | inl under ↦ used k under
    | inr over ↦
        let same : n ≡ k = omega (arith, below, over) in
        subst (λ j. IsSome (lookup (nat_eq j) objects)) same here
  ])

  -- the search finds the least unused id, where it is among those searched
  unused_from-least : (more from id : ℕ) (objects : List (ℕ × T)) → IsLeastUnused objects id → from ≤ id → id ≤ from + more → unused_from more from objects ≡ id
  unused_from-least zero from id objects least above below = omega (arith, above, below)
  unused_from-least (suc more) from id objects least above below = elim (cases_lt from id) [
    | inl under ↦
        ap (λ b. if b then unused_from more (from + 1) objects else from) (least.1 from under)
        ∙ unused_from-least more (from + 1) id objects least (omega (arith, under)) (omega (arith, below))
    | inr over ↦
        let same : id ≡ from = omega (arith, above, over) in
        ap (λ b. if b then unused_from more (from + 1) objects else from) (subst (λ j. is_used j objects ≡ false) same (ap is_some least.0)) ∙ sym same
  ]

  -- so the search of as many ids as there are objects computes it
  pub least_is : (objects : List (ℕ × T)) (id : ℕ) → IsLeastUnused objects id → id ≡ least_unused objects
  least_is objects id least =
      sym (unused_from-least (length objects) 0 id objects least (omega arith) (omega (arith, room_below objects id least.1)))
