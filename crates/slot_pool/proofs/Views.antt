-- What a contract sees of the places after each operation.
use Rattle.std.proofs.Common.{◌≡◌, ℕ, zero, suc, ◌+◌, ◌<◌, ◌≤◌, List, [], ◌∷◌, length, get_or, set, Option, Some, None, is_some, refl, sym, ap, subst, ◌∙◌, inl, inr, arith, length-set, slice_get, true, false, true≢false, All, le_refl}
use Rattle.std.proofs.lemmas.Option.{slice_get_within, slice_get_read}
use Rattle.std.proofs.lemmas.List.Elements.{All-append, All-cons, All-nil}
use Rattle.slot_pool.specs.declared.handle.Handle.{Handle}
use Rattle.slot_pool.specs.declared.place.Resident.{Resident}
use Rattle.slot_pool.specs.declared.place.Place.{Place}
use Rattle.slot_pool.specs.declared.place.Place.TheVariants.{Free, Filled}
use Rattle.slot_pool.specs.Handle.{same_handle}
use Rattle.slot_pool.specs.Links.{Links, IsUnchained}
use Rattle.slot_pool.specs.Pool.{Pool, KeepsOtherValues, Lives, get, with_put, without, with_value}
use Rattle.slot_pool.specs.Place.{refilled, held_under, held_at, place_at, value_of, link_in, links_at, link_entry, links_from, pool_of, IsFreeList, IsSound, with_free, values_below, collected, numbered}
use Rattle.slot_pool.proofs.Handles.{option_cases, same_handle-other, lookup-append_none, lookup-append_some, remove_entry-none}
use Rattle.slot_pool.proofs.Joined.{lookup-remove_other}
use Rattle.slot_pool.proofs.Places.{held_under-some, held_under-filled, within}
use Rattle.slot_pool.proofs.Collects.{FindsOwn}
use Rattle.slot_pool.proofs.Sound.{place_at-set_same, filled_at, lookup-values, FindsOwn-numbered}
use Rattle.slot_pool.proofs.Neighbours.{link_of-links_from}
use Rattle.slot_pool.proofs.Writes.{values-put, links-put, free_place, rest_of_free, values-refilled, values-freed, IsSound-freed, IsSound-put, links_from-set}
use Rattle.slot_pool.proofs.Grown.{values-with_free, links-with_free, length-with_free}

module _ {T : Type 0} where
  pub Pool-same : (a b : Pool T) → a.values ≡ b.values → a.capacity ≡ b.capacity → a.puts ≡ b.puts → a.links ≡ b.links → a ≡ b
  Pool-same a b values capacity puts links =
      let one : a ≡ record { values = b.values; capacity = a.capacity; puts = a.puts; links = a.links } = ap (λ x. record { values = x; capacity = a.capacity; puts = a.puts; links = a.links }) values in
      let two : one_of a.capacity ≡ one_of b.capacity = ap one_of capacity in
      let three : two_of a.puts ≡ two_of b.puts = ap two_of puts in
      let four : three_of a.links ≡ three_of b.links = ap three_of links in
      one ∙ two ∙ three ∙ four
    where
      one_of : ℕ → Pool T
      one_of x = record { values = b.values; capacity = x; puts = a.puts; links = a.links }

      two_of : ℕ → Pool T
      two_of x = record { values = b.values; capacity = b.capacity; puts = x; links = a.links }

      three_of : Links → Pool T
      three_of x = record { values = b.values; capacity = b.capacity; puts = b.puts; links = x }

  -- what is read at the first free place
  pub read_free : (ps : List (Place T)) (count i : ℕ) (place : Place T) → IsFreeList ps count (Some i) → place ≡ get_or ps i place → slice_get ps i ≡ Some place
  read_free ps count i place linked read =
      let free = free_place ps count i linked in
      slice_get_read ps (length ps) i place refl (slice_get_within ps i _ free.1) read

  pub free_within : (ps : List (Place T)) (count i : ℕ) → IsFreeList ps count (Some i) → i < length ps
  free_within ps count i linked = let free = free_place ps count i linked in slice_get_within ps i _ free.1

  pub free_not_filled : (ps : List (Place T)) (count i : ℕ) (held : Resident T) → IsFreeList ps count (Some i) → slice_get ps i ≡ Some (Filled held) → ⊥
  free_not_filled ps count i held linked found =
      let free = free_place ps count i linked in
      let there = free.1 in
      cc

  pub pool_of-put : (ps : List (Place T)) (i puts : ℕ) (next : Option ℕ) (value : T) → IsSound ps (Some i) puts → slice_get ps i ≡ Some (Free next) → pool_of (set ps i (Filled (record { value = value; number = puts; link = None }))) (puts + 1) ≡ with_put (pool_of ps puts) (record { number = puts; place = i }) value
  pool_of-put ps i puts next value sound found =
      Pool-same _ _ (values-put ps i puts next value sound found) (length-set ps i _) refl (links-put ps i puts next value sound found)

  pub unchained-put : (ps : List (Place T)) (i puts : ℕ) (value : T) → i < length ps → IsUnchained (links_from 0 (set ps i (Filled (record { value = value; number = puts; link = None })))) (record { number = puts; place = i })
  unchained-put ps i puts value inside =
      let there : Resident T = record { value = value; number = puts; link = None } in
      link_of-links_from (set ps i (Filled there)) (record { number = puts; place = i })
      ∙ ap link_in (ap (held_under puts) (place_at-set_same ps i (Filled there) inside) ∙ held_under-filled puts there refl)

  pub not_full : (ps : List (Place T)) (i puts : ℕ) (next : Option ℕ) → IsSound ps (Some i) puts → slice_get ps i ≡ Some (Free next) → length (values_below puts ps) ≡ length ps → ⊥
  not_full ps i puts next sound found full =
      let rest = rest_of_free ps sound.vacant i next sound.linked found in
      omega (arith, sound.total, rest.1)

  -- what is read where a value is held
  pub read_held : (ps : List (Place T)) (q : Handle) (held : Resident T) (place : Place T) → held_at ps q ≡ Some held → place ≡ get_or ps q.place place → place ≡ Filled held
  read_held ps q held place found read =
      let there = slice_get_read ps (length ps) q.place place refl (within ps q.number q.place held found) read in
      let same = filled_at ps q.number q.place held found in
      cc

  pub pool_of-freed : (ps : List (Place T)) (free : Option ℕ) (puts : ℕ) (q : Handle) (held : Resident T) → IsSound ps free puts → held_at ps q ≡ Some held → IsUnchained (links_from 0 ps) q → pool_of (set ps q.place (Free free)) puts ≡ without (pool_of ps puts) q
  pool_of-freed ps free puts q held sound found unchained =
      let inside = within ps q.number q.place held found in
      let place = (held_under-some q.number _ held found).0 in
      let none : held.link ≡ None = sym (ap link_in found) ∙ sym (link_of-links_from ps q) ∙ unchained in
      let entries : links_at q.place (place_at ps q.place) ≡ [] = ap (links_at q.place) place ∙ ap (link_entry q.place held.number) none in
      Pool-same _ _ (values-freed ps free puts sound q held found) (length-set ps q.place _) refl (links_from-set ps q.place (Free free) inside (sym entries))

  pub pool_of-refilled : (ps : List (Place T)) (free : Option ℕ) (puts : ℕ) (q : Handle) (held : Resident T) (value : T) → IsSound ps free puts → held_at ps q ≡ Some held → pool_of (set ps q.place (refilled (Filled held) value)) puts ≡ with_value (pool_of ps puts) q value
  pool_of-refilled ps free puts q held value sound found =
      let inside = within ps q.number q.place held found in
      let place = (held_under-some q.number _ held found).0 in
      Pool-same _ _ (values-refilled ps free puts sound q held found (record held { value = value }) refl) (length-set ps q.place _) refl (links_from-set ps q.place _ inside (sym (ap (links_at q.place) place)))

  pub without_absent : (ps : List (Place T)) (free : Option ℕ) (puts : ℕ) (q : Handle) → IsSound ps free puts → held_at ps q ≡ None → without (pool_of ps puts) q ≡ pool_of ps puts
  without_absent ps free puts q sound none =
      Pool-same _ _ (remove_entry-none (same_handle q) (values_below puts ps) (lookup-values ps free puts sound q ∙ ap value_of none)) refl refl refl

  pub pool_of-grown : (ps : List (Place T)) (free : Option ℕ) (puts more : ℕ) → pool_of (with_free more ps free) puts ≡ record { values = values_below puts ps; capacity = length ps + more; puts = puts; links = links_from 0 ps }
  pool_of-grown ps free puts more =
      Pool-same _ _ (values-with_free more ps free puts) (length-with_free more ps free) refl (links-with_free more ps free)

  -- what the test of a handle tells
  pub held_none : (ps : List (Place T)) (q : Handle) → false ≡ is_some (held_at ps q) → held_at ps q ≡ None
  held_none ps q not_some =
      elim (option_cases (held_at ps q)) [
        | inl none ↦ none
        | inr some ↦ absurd (true≢false (sym (not_some ∙ ap is_some some.1)))
      ]

  pub held_some : (ps : List (Place T)) (q : Handle) → true ≡ is_some (held_at ps q) → (held : Resident T) × (held_at ps q ≡ Some held)
  held_some ps q is_there =
      elim (option_cases (held_at ps q)) [
        | inl none ↦ absurd (true≢false (is_there ∙ ap is_some none))
        | inr some ↦ some
      ]

  pub lives_if_held : (ps : List (Place T)) (free : Option ℕ) (puts : ℕ) (q : Handle) → IsSound ps free puts → true ≡ is_some (held_at ps q) → Lives (pool_of ps puts) q
  lives_if_held ps free puts q sound is_there =
      let held = held_some ps q is_there in
      ap is_some (lookup-values ps free puts sound q ∙ ap value_of held.1)

  pub gone : (ps : List (Place T)) (free : Option ℕ) (puts : ℕ) (q : Handle) (held : Resident T) → IsSound ps free puts → held_at ps q ≡ Some held → get (pool_of (set ps q.place (Free free)) puts) q ≡ None
  gone ps free puts q held sound found =
      let freed : held_at (set ps q.place (Free free)) q ≡ None = ap (held_under q.number) (place_at-set_same ps q.place (Free free) (within ps q.number q.place held found)) in
      lookup-values (set ps q.place (Free free)) (Some q.place) puts (IsSound-freed ps free puts sound q held found) q ∙ ap value_of freed

  below_all : (most puts : ℕ) (f : ℕ → Option (Handle × T)) → FindsOwn f → most ≤ puts → All (λ (entry : Handle × T). entry.0.number < puts) (collected most f)
  below_all zero puts f own enough = All-nil (λ (entry : Handle × T). entry.0.number < puts)
  below_all (suc n) puts f own enough =
      let P : Handle × T → Type 0 = λ entry. entry.0.number < puts in
      let before : All P (collected n f) = below_all n puts f own (omega arith) in
      elim (option_cases (f n)) [
        | inl none ↦ rw none (All-append P (collected n f) [] before (All-nil P))
        | inr some ↦
            let here : some.0.0.number < puts = let e = own n some.0 some.1 in omega arith in
            rw some.1 (All-append P (collected n f) (some.0 ∷ []) before (All-cons P some.0 [] here (All-nil P)))
      ]

  -- each number is below the puts
  pub numbers_below : (ps : List (Place T)) (puts : ℕ) → All (λ (entry : Handle × T). entry.0.number < puts) (values_below puts ps)
  numbers_below ps puts = below_all puts puts (numbered 0 ps) (FindsOwn-numbered ps) (le_refl puts)

  pub found-put : (ps : List (Place T)) (i puts : ℕ) (next : Option ℕ) (value : T) → IsSound ps (Some i) puts → slice_get ps i ≡ Some (Free next) → get (pool_of (set ps i (Filled (record { value = value; number = puts; link = None }))) (puts + 1)) (record { number = puts; place = i }) ≡ Some value
  found-put ps i puts next value sound found =
      let there : Resident T = record { value = value; number = puts; link = None } in
      let inside = slice_get_within ps i _ found in
      lookup-values _ next (puts + 1) (IsSound-put ps i puts next value sound found) (record { number = puts; place = i })
      ∙ ap value_of (ap (held_under puts) (place_at-set_same ps i (Filled there) inside) ∙ held_under-filled puts there refl)

  others-with_put : (pool : Pool T) (handle : Handle) (value : T) → KeepsOtherValues pool (with_put pool handle value) handle
  others-with_put pool handle value other differs =
      elim (option_cases (get pool other)) [
        | inl none ↦ lookup-append_none (same_handle other) pool.values ((handle, value) ∷ []) none ∙ rw (same_handle-other other handle differs) refl ∙ sym none
        | inr some ↦ lookup-append_some (same_handle other) pool.values ((handle, value) ∷ []) some.0 some.1 ∙ sym some.1
      ]

  others-without : (pool : Pool T) (handle : Handle) → KeepsOtherValues pool (without pool handle) handle
  others-without pool handle other differs = lookup-remove_other handle other pool.values differs

  pub others-put : (ps : List (Place T)) (i puts : ℕ) (next : Option ℕ) (value : T) → IsSound ps (Some i) puts → slice_get ps i ≡ Some (Free next) → KeepsOtherValues (pool_of ps puts) (pool_of (set ps i (Filled (record { value = value; number = puts; link = None }))) (puts + 1)) (record { number = puts; place = i })
  others-put ps i puts next value sound found =
      let handle : Handle = record { number = puts; place = i } in
      subst (λ (new : Pool T). KeepsOtherValues (pool_of ps puts) new handle) (sym (pool_of-put ps i puts next value sound found)) (others-with_put (pool_of ps puts) handle value)

  pub others-freed : (ps : List (Place T)) (free : Option ℕ) (puts : ℕ) (q : Handle) (held : Resident T) → IsSound ps free puts → held_at ps q ≡ Some held → IsUnchained (links_from 0 ps) q → KeepsOtherValues (pool_of ps puts) (pool_of (set ps q.place (Free free)) puts) q
  others-freed ps free puts q held sound found unchained =
      subst (λ (new : Pool T). KeepsOtherValues (pool_of ps puts) new q) (sym (pool_of-freed ps free puts q held sound found unchained)) (others-without (pool_of ps puts) q)
