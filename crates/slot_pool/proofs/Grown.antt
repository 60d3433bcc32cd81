-- Free places at the end change nothing that a contract sees but the capacity.
use Rattle.std.proofs.Common.{◌≡◌, ◌⊎◌, ℕ, zero, suc, ◌+◌, ◌<◌, ◌^◌, List, [], ◌∷◌, ◌++◌, length, Option, Some, None, is_some, refl, sym, ap, ◌∙◌, inl, inr, arith, add-zero, true≢false}
use Rattle.std.proofs.lemmas.List.{length_push}
use Rattle.slot_pool.specs.declared.place.Place.{Place}
use Rattle.slot_pool.specs.declared.place.Place.TheVariants.{Free}
use Rattle.slot_pool.specs.Place.{held_under, place_at, numbered, values_below, links_at, links_from, IsSound, with_free, free_after}
use Rattle.slot_pool.proofs.Collects.{collected-same}
use Rattle.slot_pool.proofs.Places.{numbered-same}
use Rattle.slot_pool.proofs.FreeLists.{IsFreeList-push}
use Rattle.slot_pool.proofs.Neighbours.{links_from-same}

module _ {T : Type 0} where
  place_at-push : (ps : List (Place T)) (free : Option ℕ) (j : ℕ) → (place_at (ps ++ Free free ∷ []) j ≡ place_at ps j) ⊎ ((place_at ps j ≡ Free None) × (place_at (ps ++ Free free ∷ []) j ≡ Free free))
  place_at-push [] free zero = inr (refl, refl)
  place_at-push [] free (suc j) = inl refl
  place_at-push (p ∷ ps) free zero = inl refl
  place_at-push (p ∷ ps) free (suc j) = place_at-push ps free j

  held_under-push : (ps : List (Place T)) (free : Option ℕ) (n j : ℕ) → held_under n (place_at (ps ++ Free free ∷ []) j) ≡ held_under n (place_at ps j)
  held_under-push ps free n j =
      elim (place_at-push ps free j) [
        | inl same ↦ ap (held_under n) same
        | inr new ↦ ap (held_under n) new.1 ∙ sym (ap (held_under n) new.0)
      ]

  values-push : (ps : List (Place T)) (free : Option ℕ) (puts : ℕ) → values_below puts (ps ++ Free free ∷ []) ≡ values_below puts ps
  values-push ps free puts =
      collected-same puts (numbered 0 (ps ++ Free free ∷ [])) (numbered 0 ps) (λ n less. numbered-same 0 _ ps n (held_under-push ps free n))

  links-push : (ps : List (Place T)) (free : Option ℕ) → links_from 0 (ps ++ Free free ∷ []) ≡ links_from 0 ps
  links-push ps free =
      links_from-same 0 _ ps (λ j. elim (place_at-push ps free j) [
        | inl same ↦ ap (links_at (0 + j)) same
        | inr new ↦ ap (links_at (0 + j)) new.1 ∙ sym (ap (links_at (0 + j)) new.0)
      ])

  IsSound-push : (ps : List (Place T)) (free : Option ℕ) (puts : ℕ) → IsSound ps free puts → length ps + 1 < 2 ^ 32 → IsSound (ps ++ Free free ∷ []) (Some (length ps)) puts
  IsSound-push ps free puts sound small =
      let values = ap length (values-push ps free puts) in
      let size = length_push ps (Free free) in
      record {
        numbers = λ i n there. sound.numbers i n (sym (ap is_some (held_under-push ps free n i)) ∙ there);
        unique = λ i j n a b. sound.unique i j n (sym (ap is_some (held_under-push ps free n i)) ∙ a) (sym (ap is_some (held_under-push ps free n j)) ∙ b);
        vacant = sound.vacant + 1;
        linked = IsFreeList-push ps sound.vacant free sound.linked;
        total = omega (arith, sound.total);
        small = omega arith;
      }

  pub IsSound-with_free : (more : ℕ) (ps : List (Place T)) (free : Option ℕ) (puts : ℕ) → IsSound ps free puts → length ps + more < 2 ^ 32 → IsSound (with_free more ps free) (free_after more (length ps) free) puts
  IsSound-with_free zero ps free puts sound small = sound
  IsSound-with_free (suc more) ps free puts sound small =
      let size : length (ps ++ Free free ∷ []) ≡ length ps + 1 = length_push ps (Free free) in
      let rest = IsSound-with_free more (ps ++ Free free ∷ []) (Some (length ps)) puts (IsSound-push ps free puts sound (omega arith)) (omega arith) in
      rw size at rest

  pub values-with_free : (more : ℕ) (ps : List (Place T)) (free : Option ℕ) (puts : ℕ) → values_below puts (with_free more ps free) ≡ values_below puts ps
  values-with_free zero ps free puts = refl
  values-with_free (suc more) ps free puts = values-with_free more _ (Some (length ps)) puts ∙ values-push ps free puts

  pub links-with_free : (more : ℕ) (ps : List (Place T)) (free : Option ℕ) → links_from 0 (with_free more ps free) ≡ links_from 0 ps
  links-with_free zero ps free = refl
  links-with_free (suc more) ps free = links-with_free more _ (Some (length ps)) ∙ links-push ps free

  pub length-with_free : (more : ℕ) (ps : List (Place T)) (free : Option ℕ) → length (with_free more ps free) ≡ length ps + more
  length-with_free zero ps free = sym (add-zero (length ps))
  length-with_free (suc more) ps free = omega (arith, length-with_free more (ps ++ Free free ∷ []) (Some (length ps)), length_push ps (Free free))

  pub IsSound-none : IsSound {T = T} [] None 0
  IsSound-none =
      record {
        numbers = λ i n there. absurd (true≢false (sym there));
        unique = λ i j n a b. absurd (true≢false (sym a));
        vacant = 0;
        linked = refl;
        total = refl;
        small = omega arith;
      }
