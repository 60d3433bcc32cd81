-- The links that the places show, and what a handle finds among them.
use Rattle.std.proofs.Common.{◌≡◌, ◌≢◌, ℕ, zero, suc, ◌+◌, ◌<◌, List, [], ◌∷◌, Option, Some, None, refl, sym, ap, ◌∙◌, inl, inr, arith, add-zero, zero-add}
use Rattle.std.proofs.lemmas.Bool.{eq-eqb}
use Rattle.std.proofs.lemmas.Bool.Decides.{eqb_tells}
use Rattle.std.specs.Map.{lookup}
use Rattle.slot_pool.specs.declared.handle.Handle.{Handle}
use Rattle.slot_pool.specs.declared.chain.Link.{Link}
use Rattle.slot_pool.specs.declared.place.Place.{Place}
use Rattle.slot_pool.specs.declared.place.Place.TheVariants.{Free, Filled}
use Rattle.slot_pool.specs.Handle.{same_handle}
use Rattle.slot_pool.specs.Links.{link_of}
use Rattle.slot_pool.specs.Place.{held_under, held_at, place_at, link_in, links_at, link_entry, links_from}
use Rattle.slot_pool.proofs.Handles.{option_cases, same_handle-other, lookup-append_none, lookup-append_some}

entry_other : (q : Handle) (index number : ℕ) (link : Option Link) → q.place ≢ index → lookup (same_handle q) (link_entry index number link) ≡ None
entry_other q index number None differs = refl
entry_other q index number (Some link) differs =
    rw (same_handle-other q (record { number = number; place = index }) (λ same. differs (ap (λ h. h.place) same))) refl

entry_other_number : (q : Handle) (index number : ℕ) (link : Option Link) → q.number ≢ number → lookup (same_handle q) (link_entry index number link) ≡ None
entry_other_number q index number None differs = refl
entry_other_number q index number (Some link) differs =
    rw (same_handle-other q (record { number = number; place = index }) (λ same. differs (ap (λ h. h.number) same))) refl

entry_own : (q : Handle) (index number : ℕ) (link : Option Link) → q.place ≡ index → q.number ≡ number → lookup (same_handle q) (link_entry index number link) ≡ link
entry_own q index number None place own = refl
entry_own q index number (Some link) place own =
    rw (eq-eqb q.place index place, eq-eqb q.number number own) refl

module _ {T : Type 0} where
  lookup-links_at_other : (q : Handle) (index : ℕ) (p : Place T) → q.place ≢ index → lookup (same_handle q) (links_at index p) ≡ None
  lookup-links_at_other q index (Free next) differs = refl
  lookup-links_at_other q index (Filled held) differs = entry_other q index held.number held.link differs

  lookup-links_at : (q : Handle) (index : ℕ) (p : Place T) → q.place ≡ index → lookup (same_handle q) (links_at index p) ≡ link_in (held_under q.number p)
  lookup-links_at q index (Free next) place = refl
  lookup-links_at q index (Filled held) place =
      elim (eqb_tells held.number q.number) [
        | inl same ↦ rw same.0 (entry_own q index held.number held.link place (sym same.1))
        | inr other ↦ rw other.0 (entry_other_number q index held.number held.link (λ same. other.1 (sym same)))
      ]

  lookup-links_above : (first : ℕ) (ps : List (Place T)) (q : Handle) → q.place < first → lookup (same_handle q) (links_from first ps) ≡ None
  lookup-links_above first [] q above = refl
  lookup-links_above first (p ∷ ps) q above =
      lookup-append_none (same_handle q) (links_at first p) _ (lookup-links_at_other q first p (λ e. omega arith))
      ∙ lookup-links_above (first + 1) ps q (omega arith)

  lookup-links_from : (first : ℕ) (ps : List (Place T)) (q : Handle) (i : ℕ) → q.place ≡ first + i → lookup (same_handle q) (links_from first ps) ≡ link_in (held_under q.number (place_at ps i))
  lookup-links_from first [] q i at = refl
  lookup-links_from first (p ∷ ps) q zero at =
      let here = lookup-links_at q first p (omega arith) in
      let rest = lookup-links_above (first + 1) ps q (omega arith) in
      elim (option_cases (lookup (same_handle q) (links_at first p))) [
        | inl none ↦ lookup-append_none (same_handle q) (links_at first p) _ none ∙ rest ∙ sym none ∙ here
        | inr some ↦ lookup-append_some (same_handle q) (links_at first p) _ some.0 some.1 ∙ sym some.1 ∙ here
      ]
  lookup-links_from first (p ∷ ps) q (suc i) at =
      lookup-append_none (same_handle q) (links_at first p) _ (lookup-links_at_other q first p (λ e. omega arith))
      ∙ lookup-links_from (first + 1) ps q i (omega arith)

  -- a handle finds the neighbours that its place has
  pub link_of-links_from : (ps : List (Place T)) (q : Handle) → link_of (links_from 0 ps) q ≡ link_in (held_at ps q)
  link_of-links_from ps q = lookup-links_from 0 ps q q.place (sym (zero-add q.place))

  links_from-none : (first : ℕ) (ps : List (Place T)) → ((j : ℕ) → links_at (first + j) (place_at ps j) ≡ []) → links_from first ps ≡ []
  links_from-none first [] none = refl
  links_from-none first (p ∷ ps) none =
      let here : links_at first p ≡ [] = rw add-zero at (none 0) in
      let rest = links_from-none (first + 1) ps (λ j. let shift : first + 1 + j ≡ first + suc j = omega arith in rw shift (none (suc j))) in
      rw here rest

  pub links_from-same : (first : ℕ) (ps qs : List (Place T)) → ((j : ℕ) → links_at (first + j) (place_at ps j) ≡ links_at (first + j) (place_at qs j)) → links_from first ps ≡ links_from first qs
  links_from-same first [] qs same = sym (links_from-none first qs (λ j. sym (same j)))
  links_from-same first (p ∷ ps) [] same = links_from-none first (p ∷ ps) same
  links_from-same first (p ∷ ps) (q ∷ qs) same =
      let here : links_at first p ≡ links_at first q = rw add-zero at (same 0) in
      let rest = links_from-same (first + 1) ps qs (λ j. let shift : first + 1 + j ≡ first + suc j = omega arith in rw shift (same (suc j))) in
      rw (here, rest) refl
