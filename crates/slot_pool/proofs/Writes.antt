-- What each write of one place does to what a contract sees, and that the places stay sound.
use Rattle.std.proofs.Common.{◌≡◌, ◌≢◌, ◌⊎◌, ℕ, zero, suc, ◌+◌, ◌<◌, true, List, [], ◌∷◌, ◌++◌, length, set, Option, Some, None, is_some, refl, sym, ap, subst, ◌∙◌, inl, inr, arith, zero-add, add-one, length-set, slice_get, true≢false}
use Rattle.std.proofs.lemmas.Bool.{cases_eq}
use Rattle.std.proofs.lemmas.List.{length_push, get_or-set_same}
use Rattle.std.proofs.lemmas.Map.{length-set_value}
use Rattle.std.proofs.lemmas.Option.{slice_get_within, slice_get-get_or, get_or_from_slice_get}
use Rattle.std.specs.Map.{lookup, remove_entry, set_value}
use Rattle.slot_pool.specs.declared.handle.Handle.{Handle}
use Rattle.slot_pool.specs.declared.place.Resident.{Resident}
use Rattle.slot_pool.specs.declared.place.Place.{Place}
use Rattle.slot_pool.specs.declared.place.Place.TheVariants.{Free, Filled}
use Rattle.slot_pool.specs.Handle.{same_handle}
use Rattle.slot_pool.specs.Place.{held_under, held_at, place_at, value_of, numbered, values_below, links_at, links_from, IsFreeList, IsSound}
use Rattle.slot_pool.proofs.Handles.{option_cases, Handle-same, length-remove_entry}
use Rattle.slot_pool.proofs.Collects.{collected-same, collected-without, collected-with}
use Rattle.slot_pool.proofs.Places.{held_under-some, held_under-filled, held_under-other, numbered-none, numbered-some, numbered-same, within}
use Rattle.slot_pool.proofs.FreeLists.{IsFreeList-set, filled_is_off, head_is_off}
use Rattle.slot_pool.proofs.Neighbours.{links_from-same}
use Rattle.slot_pool.proofs.Sound.{place_at-set_same, place_at-set_other, filled_at, only_here, FindsOwn-numbered, numbered-held, FewerNumbers, FewerNumbers-set, lookup-values}

module _ {T : Type 0} where
  -- a number that neither the old nor the new place has finds what it found
  numbered-set_other : (ps : List (Place T)) (i : ℕ) (p : Place T) (n : ℕ) → i < length ps → held_under n p ≡ None → held_under n (place_at ps i) ≡ None → numbered 0 (set ps i p) n ≡ numbered 0 ps n
  numbered-set_other ps i p n inside new old =
      numbered-same 0 (set ps i p) ps n (λ j. elim (cases_eq j i) [
        | inl same ↦ rw (same, place_at-set_same ps i p inside, new, old) refl
        | inr differs ↦ ap (held_under n) (place_at-set_other ps i j p differs)
      ])

  other_number : (ps : List (Place T)) (q : Handle) (held : Resident T) (n : ℕ) → held_at ps q ≡ Some held → n ≢ q.number → held_under n (place_at ps q.place) ≡ None
  other_number ps q held n found differs =
      let place = held_under-some q.number _ held found in
      rw place.0 (held_under-other n held (λ e. differs (sym e ∙ place.1)))

  pub links_from-set : (ps : List (Place T)) (i : ℕ) (p : Place T) → i < length ps → links_at i p ≡ links_at i (place_at ps i) → links_from 0 (set ps i p) ≡ links_from 0 ps
  links_from-set ps i p inside same =
      links_from-same 0 (set ps i p) ps (λ j. elim (cases_eq j i) [
        | inl at ↦ rw (at, zero-add, place_at-set_same ps i p inside) same
        | inr differs ↦ ap (links_at (0 + j)) (place_at-set_other ps i j p differs)
      ])

  module _ (ps : List (Place T)) (free : Option ℕ) (puts : ℕ) (sound : IsSound ps free puts) where
    module _ (q : Handle) (held : Resident T) (found : held_at ps q ≡ Some held) where
      inside : q.place < length ps
      inside = within ps q.number q.place held found

      below : q.number < puts
      below = sound.numbers q.place q.number (ap is_some found)

      own : held.number ≡ q.number
      own = (held_under-some q.number _ held found).1

      -- what the handle's number finds once its place holds something else under it
      numbered-refilled : (new : Resident T) → new.number ≡ held.number → numbered 0 (set ps q.place (Filled new)) q.number ≡ Some (q, new.value)
      numbered-refilled new same =
          let qs = set ps q.place (Filled new) in
          let here : held_under q.number (place_at qs q.place) ≡ Some new =
          rw (place_at-set_same ps q.place (Filled new) inside) (held_under-filled q.number new (same ∙ own)) in
          let others : (j : ℕ) → j ≢ q.place → held_under q.number (place_at qs j) ≡ None =
          λ j differs. rw (place_at-set_other ps q.place j (Filled new) differs) (only_here ps free puts sound q.number q.place held found j differs) in
          let handle : record { number = new.number; place = 0 + q.place } ≡ q = Handle-same _ q (zero-add q.place) (same ∙ own) in
          numbered-some 0 qs q.number q.place new here others ∙ ap (λ h. Some (h, new.value)) handle

      refilled_other : (new : Resident T) (n : ℕ) → new.number ≡ held.number → n ≢ q.number → numbered 0 (set ps q.place (Filled new)) n ≡ numbered 0 ps n
      refilled_other new n same differs =
          numbered-set_other ps q.place (Filled new) n inside (held_under-other n new (λ e. differs (sym e ∙ same ∙ own))) (other_number ps q held n found differs)

      pub values-refilled : (new : Resident T) → new.number ≡ held.number → values_below puts (set ps q.place (Filled new)) ≡ set_value (same_handle q) (values_below puts ps) new.value
      values-refilled new same =
          collected-with puts (numbered 0 ps) (numbered 0 (set ps q.place (Filled new))) q held.value new.value (FindsOwn-numbered ps) (numbered-held ps free puts sound q held found) (numbered-refilled new same) (λ n differs. refilled_other new n same differs) below

      -- the same value stays
      pub values-kept : (new : Resident T) → new.number ≡ held.number → new.value ≡ held.value → values_below puts (set ps q.place (Filled new)) ≡ values_below puts ps
      values-kept new same value =
          collected-same puts (numbered 0 (set ps q.place (Filled new))) (numbered 0 ps) (λ n less. elim (cases_eq n q.number) [
            | inl at ↦ rw (at, numbered-refilled new same, numbered-held ps free puts sound q held found, value) refl
            | inr differs ↦ refilled_other new n same differs
          ])

      fewer_refilled : (new : Resident T) → new.number ≡ held.number → FewerNumbers ps (set ps q.place (Filled new))
      fewer_refilled new same =
          FewerNumbers-set ps q.place (Filled new) inside (λ n there. elim (cases_eq n q.number) [
            | inl at ↦ rw at (ap is_some found)
            | inr differs ↦ absurd (let none = held_under-other n new (λ e. differs (sym e ∙ same ∙ own)) in true≢false (sym (rw none at there)))
          ])

      pub IsSound-refilled : (new : Resident T) → new.number ≡ held.number → IsSound (set ps q.place (Filled new)) free puts
      IsSound-refilled new same =
          let qs = set ps q.place (Filled new) in
          let fewer = fewer_refilled new same in
          let size = length-set ps q.place (Filled new) in
          let count : length (values_below puts qs) ≡ length (values_below puts ps) =
          ap length (values-refilled new same) ∙ length-set_value (same_handle q) (values_below puts ps) new.value in
          record {
            numbers = λ i n there. sound.numbers i n (fewer n i there);
            unique = λ i j n a b. sound.unique i j n (fewer n i a) (fewer n j b);
            vacant = sound.vacant;
            linked = IsFreeList-set ps q.place (Filled new) sound.vacant free (λ m less. filled_is_off ps q.place held (filled_at ps q.number q.place held found) m) sound.linked;
            total = omega (arith, sound.total);
            small = omega (arith, sound.small);
          }

      numbered-freed : numbered 0 (set ps q.place (Free free)) q.number ≡ None
      numbered-freed =
          numbered-none 0 (set ps q.place (Free free)) q.number (λ j. elim (cases_eq j q.place) [
            | inl at ↦ rw (at, place_at-set_same ps q.place (Free free) inside) refl
            | inr differs ↦ rw (place_at-set_other ps q.place j (Free free) differs) (only_here ps free puts sound q.number q.place held found j differs)
          ])

      pub values-freed : values_below puts (set ps q.place (Free free)) ≡ remove_entry (same_handle q) (values_below puts ps)
      values-freed =
          collected-without puts (numbered 0 ps) (numbered 0 (set ps q.place (Free free))) q held.value (FindsOwn-numbered ps) (numbered-held ps free puts sound q held found) numbered-freed (λ n differs. numbered-set_other ps q.place (Free free) n inside refl (other_number ps q held n found differs)) below

      pub IsSound-freed : IsSound (set ps q.place (Free free)) (Some q.place) puts
      IsSound-freed =
          let qs = set ps q.place (Free free) in
          let fewer : FewerNumbers ps qs = FewerNumbers-set ps q.place (Free free) inside (λ n there. absurd (true≢false (sym there))) in
          let size = length-set ps q.place (Free free) in
          let there : lookup (same_handle q) (values_below puts ps) ≡ Some held.value = lookup-values ps free puts sound q ∙ ap value_of found in
          let count = length-remove_entry (same_handle q) (values_below puts ps) held.value there in
          let fewer_values = ap length values-freed in
          let written : slice_get qs q.place ≡ Some (Free free) =
          slice_get-get_or qs q.place (Free free) (omega (arith, inside)) ∙ ap Some (get_or-set_same ps q.place (Free free) (Free free) inside) in
          record {
            numbers = λ i n at. sound.numbers i n (fewer n i at);
            unique = λ i j n a b. sound.unique i j n (fewer n i a) (fewer n j b);
            vacant = suc sound.vacant;
            linked = (q.place, free, refl, written, IsFreeList-set ps q.place (Free free) sound.vacant free (λ m less. filled_is_off ps q.place held (filled_at ps q.number q.place held found) m) sound.linked);
            total = omega (arith, sound.total);
            small = omega (arith, sound.small);
          }

  -- the list from a free place on is that place and the list from the next
  pub rest_of_free : (ps : List (Place T)) (count i : ℕ) (next : Option ℕ) → IsFreeList ps count (Some i) → slice_get ps i ≡ Some (Free next) → (rest : ℕ) × (count ≡ suc rest) × IsFreeList ps rest next
  rest_of_free ps zero i next linked found = absurd (cc)
  rest_of_free ps (suc count) i next linked found =
      let first = linked.2 in
      let index : linked.0 ≡ i = cc in
      let there : slice_get ps i ≡ Some (Free linked.1) = subst (λ (k : ℕ). slice_get ps k ≡ Some (Free linked.1)) index linked.3 in
      let same : linked.1 ≡ next = cc in
      (count, refl, subst (IsFreeList ps count) same linked.4)

  pub free_place : (ps : List (Place T)) (count i : ℕ) → IsFreeList ps count (Some i) → (next : Option ℕ) × (slice_get ps i ≡ Some (Free next))
  free_place ps zero i linked = absurd (cc)
  free_place ps (suc count) i linked =
      let first = linked.2 in
      let index : linked.0 ≡ i = cc in
      (linked.1, subst (λ (k : ℕ). slice_get ps k ≡ Some (Free linked.1)) index linked.3)

  pub none_free : (ps : List (Place T)) (count : ℕ) → IsFreeList ps count None → count ≡ 0
  none_free ps zero linked = refl
  none_free ps (suc count) linked = let some = linked.2 in absurd (cc)

  -- a place that is free has no number
  free_has_none : (ps : List (Place T)) (i : ℕ) (next : Option ℕ) → slice_get ps i ≡ Some (Free next) → (n : ℕ) → held_under n (place_at ps i) ≡ None
  free_has_none ps i next found n = ap (held_under n) (get_or_from_slice_get ps i _ (Free None) found)

  module _ (ps : List (Place T)) (i puts : ℕ) (next : Option ℕ) (value : T) (sound : IsSound ps (Some i) puts) (found : slice_get ps i ≡ Some (Free next)) where
    abbrev pub put_there : Resident T
    put_there = record { value = value; number = puts; link = None }

    abbrev pub after_put : List (Place T)
    after_put = set ps i (Filled put_there)

    put_inside : i < length ps
    put_inside = slice_get_within ps i _ found

    absent : (j : ℕ) → held_under puts (place_at ps j) ≡ None
    absent j =
        elim (option_cases (held_under puts (place_at ps j))) [
          | inl none ↦ none
          | inr some ↦ absurd (let less = sound.numbers j puts (ap is_some some.1) in omega arith)
        ]

    numbered-put : numbered 0 after_put puts ≡ Some (record { number = puts; place = i }, value)
    numbered-put =
        let here : held_under puts (place_at after_put i) ≡ Some put_there =
        rw (place_at-set_same ps i (Filled put_there) put_inside) (held_under-filled puts put_there refl) in
        numbered-some 0 after_put puts i put_there here (λ j differs. rw (place_at-set_other ps i j (Filled put_there) differs) (absent j))
        ∙ ap (λ k. Some (record { number = puts; place = k }, value)) (zero-add i)

    pub values-put : values_below (puts + 1) after_put ≡ values_below puts ps ++ (record { number = puts; place = i }, value) ∷ []
    values-put =
        let before = collected-same puts (numbered 0 after_put) (numbered 0 ps) (λ n less.
        numbered-set_other ps i (Filled put_there) n put_inside (held_under-other n put_there (λ e. omega arith)) (free_has_none ps i next found n)) in
        rw (add-one puts, numbered-put, before) refl

    pub links-put : links_from 0 after_put ≡ links_from 0 ps
    links-put =
        links_from-set ps i (Filled put_there) put_inside (ap (links_at i) (sym (get_or_from_slice_get ps i _ (Free None) found)))

    -- where a number stands after the put
    number_after : (j n : ℕ) → is_some (held_under n (place_at after_put j)) ≡ true → ((j ≡ i) × (n ≡ puts)) ⊎ ((j ≢ i) × (is_some (held_under n (place_at ps j)) ≡ true))
    number_after j n there =
        elim (cases_eq j i) [
          | inl at ↦ elim (cases_eq n puts) [
            | inl same ↦ inl (at, same)
            | inr differs ↦
                let none : held_under n (place_at after_put j) ≡ None =
                rw (at, place_at-set_same ps i (Filled put_there) put_inside) (held_under-other n put_there (λ e. differs (sym e))) in
                absurd (true≢false (sym (rw none at there)))
          ]
          | inr apart ↦ inr (apart, rw (place_at-set_other ps i j (Filled put_there) apart) at there)
        ]

    numbers_after : (j n : ℕ) → is_some (held_under n (place_at after_put j)) ≡ true → n < puts + 1
    numbers_after j n there =
        elim (number_after j n there) [
          | inl new ↦ omega arith
          | inr old ↦ let less = sound.numbers j n old.1 in omega arith
        ]

    unique_after : (j k n : ℕ) → is_some (held_under n (place_at after_put j)) ≡ true → is_some (held_under n (place_at after_put k)) ≡ true → j ≡ k
    unique_after j k n first second =
        elim (number_after j n first) [
          | inl new ↦ elim (number_after k n second) [
            | inl again ↦ new.0 ∙ sym again.0
            | inr old ↦ absurd (let less = sound.numbers k n old.1 in omega arith)
          ]
          | inr old ↦ elim (number_after k n second) [
            | inl new ↦ absurd (let less = sound.numbers j n old.1 in omega arith)
            | inr again ↦ sound.unique j k n old.1 again.1
          ]
        ]

    pub IsSound-put : IsSound after_put next (puts + 1)
    IsSound-put =
        let rest = rest_of_free ps sound.vacant i next sound.linked found in
        let size = length-set ps i (Filled put_there) in
        let count = ap length values-put ∙ length_push (values_below puts ps) (record { number = puts; place = i }, value) in
        record {
          numbers = numbers_after;
          unique = unique_after;
          vacant = rest.0;
          linked = IsFreeList-set ps i (Filled put_there) rest.0 next (λ m less. head_is_off ps rest.0 i next found rest.2 m less) rest.2;
          total = omega (arith, sound.total, rest.1);
          small = omega (arith, sound.small);
        }
