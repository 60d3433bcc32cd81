-- What a write of one link does to the places, and to what the handles find.
use Rattle.std.proofs.Common.{◌≡◌, ◌≢◌, ℕ, List, length, Option, Some, None, is_some, refl, sym, ap, ◌∙◌, inl, inr, length-set, set}
use Rattle.std.proofs.lemmas.Bool.{cases_eq}
use Rattle.slot_pool.specs.declared.handle.Handle.{Handle}
use Rattle.slot_pool.specs.declared.chain.Link.{Link}
use Rattle.slot_pool.specs.declared.chain.Side.{Side}
use Rattle.slot_pool.specs.declared.place.Resident.{Resident}
use Rattle.slot_pool.specs.declared.place.Place.{Place}
use Rattle.slot_pool.specs.declared.place.Place.TheVariants.{Filled}
use Rattle.slot_pool.specs.Pool.{Lives}
use Rattle.slot_pool.specs.Links.{link_of}
use Rattle.slot_pool.specs.Place.{pool_of, held_under, held_at, place_at, value_of, link_in, values_below, links_from, IsSound, relinked, with_link, with_changed, with_neighbour, link_changed}
use Rattle.slot_pool.proofs.Handles.{option_cases, Handle-same}
use Rattle.slot_pool.proofs.Places.{held_under-some, held_under-filled, held_under-other, within}
use Rattle.slot_pool.proofs.Sound.{place_at-set_same, place_at-set_other, lookup-values}
use Rattle.slot_pool.proofs.Neighbours.{link_of-links_from}
use Rattle.slot_pool.proofs.Writes.{values-kept, IsSound-refilled}
use Rattle.slot_pool.proofs.Relinked.{Sets, SetsAt}

module _ {T : Type 0} where
  -- a handle that finds a link is held
  pub held_from_link : (ps : List (Place T)) (q : Handle) (link : Link) → link_of (links_from 0 ps) q ≡ Some link → (held : Resident T) × (held_at ps q ≡ Some held)
  held_from_link ps q link found =
      elim (option_cases (held_at ps q)) [
        | inl none ↦ absurd (let bad = sym (ap link_in none) ∙ sym (link_of-links_from ps q) ∙ found in cc)
        | inr some ↦ some
      ]

  pub held_from_lives : (ps : List (Place T)) (free : Option ℕ) (puts : ℕ) (q : Handle) → IsSound ps free puts → Lives (pool_of ps puts) q → (held : Resident T) × (held_at ps q ≡ Some held)
  held_from_lives ps free puts q sound lives =
      elim (option_cases (held_at ps q)) [
        | inl none ↦ absurd (let bad = sym lives ∙ ap is_some (lookup-values ps free puts sound q ∙ ap value_of none) in cc)
        | inr some ↦ some
      ]

  pub lives_from_held : (ps : List (Place T)) (free : Option ℕ) (puts : ℕ) (q : Handle) (held : Resident T) → IsSound ps free puts → held_at ps q ≡ Some held → Lives (pool_of ps puts) q
  lives_from_held ps free puts q held sound found = ap is_some (lookup-values ps free puts sound q ∙ ap value_of found)

  held_at-with_link_same : (ps : List (Place T)) (handle : Handle) (link : Option Link) (held : Resident T) → held_at ps handle ≡ Some held → held_at (with_link ps handle link) handle ≡ Some (record held { link = link })
  held_at-with_link_same ps handle link held found =
      let inside = within ps handle.number handle.place held found in
      let own = (held_under-some handle.number _ held found).1 in
      let new : Resident T = record held { link = link } in
      ap (λ (o : Option (Resident T)). held_at (relinked ps handle link o) handle) found
      ∙ ap (held_under handle.number) (place_at-set_same ps handle.place (Filled new) inside)
      ∙ held_under-filled handle.number new own

  pub held_at-with_link_other : (ps : List (Place T)) (handle q : Handle) (link : Option Link) → q ≢ handle → held_at (with_link ps handle link) q ≡ held_at ps q
  held_at-with_link_other ps handle q link differs =
      elim (option_cases (held_at ps handle)) [
        | inl none ↦ ap (λ (o : Option (Resident T)). held_at (relinked ps handle link o) q) none
        | inr some ↦
            ap (λ (o : Option (Resident T)). held_at (relinked ps handle link o) q) some.1
            ∙ elim (cases_eq q.place handle.place) [
              | inl same ↦
                  let held = some.0 in
                  let new : Resident T = record held { link = link } in
                  let place = held_under-some handle.number _ held some.1 in
                  let number : held.number ≢ q.number = λ e. differs (Handle-same q handle same (sym e ∙ place.1)) in
                  let inside = within ps handle.number handle.place held some.1 in
                  let after : held_under q.number (place_at (set ps handle.place (Filled new)) q.place) ≡ None =
                  ap (λ i. held_under q.number (place_at (set ps handle.place (Filled new)) i)) same ∙ ap (held_under q.number) (place_at-set_same ps handle.place (Filled new) inside) ∙ held_under-other q.number new number in
                  let before : held_under q.number (place_at ps q.place) ≡ None =
                  ap (λ i. held_under q.number (place_at ps i)) same ∙ ap (held_under q.number) place.0 ∙ held_under-other q.number held number in
                  after ∙ sym before
              | inr apart ↦ ap (held_under q.number) (place_at-set_other ps handle.place q.place _ apart)
            ]
      ]

  pub Sets-with_link : (ps : List (Place T)) (handle : Handle) (link : Option Link) (held : Resident T) → held_at ps handle ≡ Some held → Sets (link_of (links_from 0 ps)) (link_of (links_from 0 (with_link ps handle link))) handle link
  Sets-with_link ps handle link held found =
      record {
        here = link_of-links_from (with_link ps handle link) handle ∙ ap link_in (held_at-with_link_same ps handle link held found);
        others = λ q differs.
            link_of-links_from (with_link ps handle link) q ∙ ap link_in (held_at-with_link_other ps handle q link differs) ∙ sym (link_of-links_from ps q);
      }

  -- the places hold the same values, and are sound still
  pub record StillHolds (ps qs : List (Place T)) (free : Option ℕ) (puts : ℕ) : Type 0 where
    pub sound : IsSound qs free puts
    pub values : values_below puts qs ≡ values_below puts ps
    pub size : length qs ≡ length ps

  pub StillHolds-same : (ps : List (Place T)) (free : Option ℕ) (puts : ℕ) → IsSound ps free puts → StillHolds ps ps free puts
  StillHolds-same ps free puts sound = record { sound = sound; values = refl; size = refl }

  pub StillHolds-then : (ps qs rs : List (Place T)) (free : Option ℕ) (puts : ℕ) → StillHolds ps qs free puts → StillHolds qs rs free puts → StillHolds ps rs free puts
  StillHolds-then ps qs rs free puts first second =
      record { sound = second.sound; values = second.values ∙ first.values; size = second.size ∙ first.size }

  pub StillHolds-with_link : (ps : List (Place T)) (free : Option ℕ) (puts : ℕ) (handle : Handle) (link : Option Link) → IsSound ps free puts → StillHolds ps (with_link ps handle link) free puts
  StillHolds-with_link ps free puts handle link sound =
      elim (option_cases (held_at ps handle)) [
        | inl none ↦ rw none (StillHolds-same ps free puts sound)
        | inr some ↦
            let held = some.0 in
            let new : Resident T = record held { link = link } in
            rw some.1 (record {
              sound = IsSound-refilled ps free puts sound handle held some.1 new refl;
              values = values-kept ps free puts sound handle held some.1 new refl refl;
              size = length-set ps handle.place (Filled new);
            })
      ]

  StillHolds-with_changed : (ps : List (Place T)) (free : Option ℕ) (puts : ℕ) (handle : Handle) (link : Option Link) → IsSound ps free puts → StillHolds ps (with_changed ps handle link) free puts
  StillHolds-with_changed ps free puts handle None sound = StillHolds-same ps free puts sound
  StillHolds-with_changed ps free puts handle (Some link) sound = StillHolds-with_link ps free puts handle (Some link) sound

  pub StillHolds-with_neighbour : (ps : List (Place T)) (free : Option ℕ) (puts : ℕ) (at : Option Handle) (side : Side) (neighbour : Option Handle) → IsSound ps free puts → StillHolds ps (with_neighbour ps at side neighbour) free puts
  StillHolds-with_neighbour ps free puts None side neighbour sound = StillHolds-same ps free puts sound
  StillHolds-with_neighbour ps free puts (Some handle) side neighbour sound = StillHolds-with_changed ps free puts handle _ sound

  -- a chained handle gets another neighbour
  pub SetsAt-with_neighbour : (ps : List (Place T)) (at : Option Handle) (side : Side) (neighbour : Option Handle) → ((q : Handle) → at ≡ Some q → (link : Link) × (link_of (links_from 0 ps) q ≡ Some link)) → SetsAt (link_of (links_from 0 ps)) (link_of (links_from 0 (with_neighbour ps at side neighbour))) at (link_changed side neighbour)
  SetsAt-with_neighbour ps None side neighbour linked = λ q. refl
  SetsAt-with_neighbour ps (Some handle) side neighbour linked =
      let link = linked handle refl in
      let held = held_from_link ps handle link.0 link.1 in
      let found : link_in (held_at ps handle) ≡ Some link.0 = sym (link_of-links_from ps handle) ∙ link.1 in
      let written : with_neighbour ps (Some handle) side neighbour ≡ with_link ps handle (link_changed side neighbour (Some link.0)) = ap (λ (o : Option Link). with_changed ps handle (link_changed side neighbour o)) found in
      rw (link.1, written) (Sets-with_link ps handle (link_changed side neighbour (Some link.0)) held.0 held.1)

  held_at-with_changed_other : (ps : List (Place T)) (handle q : Handle) (link : Option Link) → q ≢ handle → held_at (with_changed ps handle link) q ≡ held_at ps q
  held_at-with_changed_other ps handle q None differs = refl
  held_at-with_changed_other ps handle q (Some link) differs = held_at-with_link_other ps handle q (Some link) differs

  pub held_at-with_neighbour_other : (ps : List (Place T)) (at : Option Handle) (side : Side) (neighbour : Option Handle) (q : Handle) → (at ≡ Some q → ⊥) → held_at (with_neighbour ps at side neighbour) q ≡ held_at ps q
  held_at-with_neighbour_other ps None side neighbour q differs = refl
  held_at-with_neighbour_other ps (Some handle) side neighbour q differs = held_at-with_changed_other ps handle q _ (λ same. differs (ap Some (sym same)))
