-- What each write of a place does to what a contract sees, and that the places stay sound.
use Rattle.std.proofs.Common.{◌≡◌, ◌≢◌, ℕ, ◌+◌, ◌<◌, true, List, length, set, Option, Some, None, is_some, refl, ap, ◌∙◌, inl, inr, zero-add, slice_get}
use Rattle.std.proofs.lemmas.Bool.{cases_eq, cases_lt}
use Rattle.std.proofs.lemmas.List.{get_or-set_same, get_or-set_other}
use Rattle.std.proofs.lemmas.Option.{slice_get-get_or}
use Rattle.std.specs.Map.{lookup}
use Rattle.std.specs.Option.{option_to_list}
use Rattle.slot_pool.specs.declared.handle.Handle.{Handle}
use Rattle.slot_pool.specs.declared.place.Resident.{Resident}
use Rattle.slot_pool.specs.declared.place.Place.{Place}
use Rattle.slot_pool.specs.declared.place.Place.TheVariants.{Free, Filled}
use Rattle.slot_pool.specs.Handle.{same_handle}
use Rattle.slot_pool.specs.Place.{held_under, held_at, place_at, value_of, numbered, values_below, IsSound}
use Rattle.slot_pool.proofs.Handles.{option_cases, Handle-same, same_handle_refl, same_handle-other}
use Rattle.slot_pool.proofs.Collects.{FindsOwn, lookup-collected, lookup-collected_above}
use Rattle.slot_pool.proofs.Places.{held_under-some, numbered-some, numbered-place, within}

module _ {T : Type 0} where
  pub place_at-set_same : (ps : List (Place T)) (i : ℕ) (p : Place T) → i < length ps → place_at (set ps i p) i ≡ p
  place_at-set_same ps i p inside = get_or-set_same ps i p (Free None) inside

  pub place_at-set_other : (ps : List (Place T)) (i j : ℕ) (p : Place T) → j ≢ i → place_at (set ps i p) j ≡ place_at ps j
  place_at-set_other ps i j p differs = get_or-set_other ps i j p (Free None) differs

  -- what is read at a place with a value or without one
  pub filled_at : (ps : List (Place T)) (n i : ℕ) (held : Resident T) → held_under n (place_at ps i) ≡ Some held → slice_get ps i ≡ Some (Filled held)
  filled_at ps n i held found =
      slice_get-get_or ps i (Free None) (within ps n i held found) ∙ ap Some (held_under-some n _ held found).0

  some_true : (n i : ℕ) (ps : List (Place T)) (held : Resident T) → held_under n (place_at ps i) ≡ Some held → is_some (held_under n (place_at ps i)) ≡ true
  some_true n i ps held found = ap is_some found

  none_from : (n i : ℕ) (ps : List (Place T)) → (is_some (held_under n (place_at ps i)) ≡ true → ⊥) → held_under n (place_at ps i) ≡ None
  none_from n i ps not_some =
      elim (option_cases (held_under n (place_at ps i))) [
        | inl none ↦ none
        | inr some ↦ absurd (not_some (ap is_some some.1))
      ]

  -- a number stands at one place alone
  pub only_here : (ps : List (Place T)) (free : Option ℕ) (puts : ℕ) → IsSound ps free puts → (n i : ℕ) (held : Resident T) → held_under n (place_at ps i) ≡ Some held → (j : ℕ) → j ≢ i → held_under n (place_at ps j) ≡ None
  only_here ps free puts sound n i held found j differs =
      none_from n j ps (λ there. differs (sound.unique j i n there (some_true n i ps held found)))

  pub FindsOwn-numbered : (ps : List (Place T)) → FindsOwn (numbered 0 ps)
  FindsOwn-numbered ps n e found =
      let place = numbered-place 0 ps n e found in
      ap (λ p. p.0.number) place.3 ∙ (held_under-some n _ place.1 place.2).1

  pub numbered-held : (ps : List (Place T)) (free : Option ℕ) (puts : ℕ) → IsSound ps free puts → (q : Handle) (held : Resident T) → held_at ps q ≡ Some held → numbered 0 ps q.number ≡ Some (q, held.value)
  numbered-held ps free puts sound q held found =
      let own = (held_under-some q.number _ held found).1 in
      let entry = numbered-some 0 ps q.number q.place held found (only_here ps free puts sound q.number q.place held found) in
      let handle : record { number = held.number; place = 0 + q.place } ≡ q = Handle-same _ q (zero-add q.place) own in
      entry ∙ ap (λ h. Some (h, held.value)) handle

  pub lookup-values : (ps : List (Place T)) (free : Option ℕ) (puts : ℕ) → IsSound ps free puts → (q : Handle) → lookup (same_handle q) (values_below puts ps) ≡ value_of (held_at ps q)
  lookup-values ps free puts sound q =
      elim (option_cases (held_at ps q)) [
        | inl none ↦ rw none (absent none)
        | inr some ↦
            let below : q.number < puts = sound.numbers q.place q.number (ap is_some some.1) in
            lookup-collected puts (numbered 0 ps) q (FindsOwn-numbered ps) below
            ∙ ap (λ o. lookup (same_handle q) (option_to_list o)) (numbered-held ps free puts sound q some.0 some.1)
            ∙ rw (some.1, same_handle_refl q) refl
      ]
    where
      absent : held_at ps q ≡ None → lookup (same_handle q) (values_below puts ps) ≡ None
      absent none =
          elim (cases_lt q.number puts) [
            | inl below ↦
                lookup-collected puts (numbered 0 ps) q (FindsOwn-numbered ps) below
                ∙ elim (option_cases (numbered 0 ps q.number)) [
                  | inl nothing ↦ rw nothing refl
                  | inr some ↦
                      let place = numbered-place 0 ps q.number some.0 some.1 in
                      let differs : q ≢ some.0.0 = λ same.
                      let index : q.place ≡ place.0 = ap (λ h. h.place) same ∙ ap (λ p. p.0.place) place.3 ∙ zero-add place.0 in
                      let bad : held_at ps q ≡ Some place.1 = ap (λ i. held_under q.number (place_at ps i)) index ∙ place.2 in
                      cc in
                      rw (some.1, same_handle-other q some.0.0 differs) refl
                ]
            | inr above ↦ lookup-collected_above puts (numbered 0 ps) q (FindsOwn-numbered ps) above
          ]

  -- no number stands where it did not stand before
  abbrev pub FewerNumbers : List (Place T) → List (Place T) → Type 0
  FewerNumbers ps qs = (n j : ℕ) → is_some (held_under n (place_at qs j)) ≡ true → is_some (held_under n (place_at ps j)) ≡ true

  -- a write of one place by one that has no other number
  pub FewerNumbers-set : (ps : List (Place T)) (i : ℕ) (p : Place T) → i < length ps → ((n : ℕ) → is_some (held_under n p) ≡ true → is_some (held_under n (place_at ps i)) ≡ true) → FewerNumbers ps (set ps i p)
  FewerNumbers-set ps i p inside fewer n j there =
      elim (cases_eq j i) [
        | inl same ↦
            let here : is_some (held_under n p) ≡ true = rw (same, place_at-set_same ps i p inside) at there in
            rw same (fewer n here)
        | inr differs ↦ rw (place_at-set_other ps i j p differs) at there
      ]
