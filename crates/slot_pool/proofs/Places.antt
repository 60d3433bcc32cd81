-- What the places show under each number.
use Rattle.std.proofs.Common.{◌≡◌, ◌≢◌, ℕ, zero, suc, ◌+◌, ◌<◌, List, [], ◌∷◌, length, Some, None, refl, sym, ap, ◌∙◌, inl, inr, arith, add-zero}
use Rattle.std.proofs.lemmas.Bool.{cases_lt, eqb-true, eq-eqb}
use Rattle.std.proofs.lemmas.Bool.Decides.{eqb_tells}
use Rattle.std.proofs.lemmas.Option.{cond_some}
use Rattle.std.proofs.lemmas.List.{get_or_past}
use Rattle.slot_pool.specs.declared.handle.Handle.{Handle}
use Rattle.slot_pool.specs.declared.place.Resident.{Resident}
use Rattle.slot_pool.specs.declared.place.Place.{Place}
use Rattle.slot_pool.specs.declared.place.Place.TheVariants.{Free, Filled}
use Rattle.slot_pool.specs.Place.{held_under, place_at, numbered}
use Rattle.slot_pool.proofs.Handles.{option_cases}

module _ {T : Type 0} where
  pub held_under-some : (number : ℕ) (place : Place T) (held : Resident T) → held_under number place ≡ Some held → (place ≡ Filled held) × (held.number ≡ number)
  held_under-some number (Free next) held e = absurd (cc)
  held_under-some number (Filled h) held e =
      let parts = cond_some _ h held e in
      (ap Filled parts.1, ap (λ x. x.number) (sym parts.1) ∙ eqb-true h.number number parts.0)

  pub held_under-filled : (number : ℕ) (held : Resident T) → held.number ≡ number → held_under number (Filled held) ≡ Some held
  held_under-filled number held same = rw (eq-eqb held.number number same) refl

  pub held_under-other : (number : ℕ) (held : Resident T) → held.number ≢ number → held_under number (Filled held) ≡ None
  held_under-other number held differs =
      elim (eqb_tells held.number number) [ inl same ↦ absurd (differs same.1) | inr other ↦ rw other.0 refl ]

  pub numbered-none : (first : ℕ) (ps : List (Place T)) (n : ℕ) → ((j : ℕ) → held_under n (place_at ps j) ≡ None) → numbered first ps n ≡ None
  numbered-none first [] n none = refl
  numbered-none first (p ∷ ps) n none =
      let here : held_under n p ≡ None = none 0 in
      rw here (numbered-none (first + 1) ps n (λ j. none (suc j)))

  pub numbered-some : (first : ℕ) (ps : List (Place T)) (n i : ℕ) (held : Resident T) → held_under n (place_at ps i) ≡ Some held → ((j : ℕ) → j ≢ i → held_under n (place_at ps j) ≡ None) → numbered first ps n ≡ Some (record { number = held.number; place = first + i }, held.value)
  numbered-some first [] n i held found others = absurd (cc)
  numbered-some first (p ∷ ps) n zero held found others =
      let here : held_under n p ≡ Some held = found in
      rw (here, add-zero) refl
  numbered-some first (p ∷ ps) n (suc i) held found others =
      let here : held_under n p ≡ None = others 0 (λ e. omega arith) in
      let shift : first + suc i ≡ first + 1 + i = omega arith in
      rw (here, shift) (numbered-some (first + 1) ps n i held found (λ j differs. others (suc j) (λ e. differs (omega arith))))

  pub numbered-same : (first : ℕ) (ps qs : List (Place T)) (n : ℕ) → ((j : ℕ) → held_under n (place_at ps j) ≡ held_under n (place_at qs j)) → numbered first ps n ≡ numbered first qs n
  numbered-same first [] qs n same = sym (numbered-none first qs n (λ j. sym (same j)))
  numbered-same first (p ∷ ps) [] n same = numbered-none first (p ∷ ps) n same
  numbered-same first (p ∷ ps) (q ∷ qs) n same =
      let here : held_under n p ≡ held_under n q = same 0 in
      rw (here, numbered-same (first + 1) ps qs n (λ j. same (suc j))) refl

  -- an entry that a number finds is what some place holds
  pub numbered-place : (first : ℕ) (ps : List (Place T)) (n : ℕ) (e : Handle × T) → numbered first ps n ≡ Some e → (j : ℕ) × (held : Resident T) × (held_under n (place_at ps j) ≡ Some held) × (e ≡ (record { number = held.number; place = first + j }, held.value))
  numbered-place first [] n e found = absurd (cc)
  numbered-place first (p ∷ ps) n e found =
      elim (option_cases (held_under n p)) [
        | inl none ↦
            let later = numbered-place (first + 1) ps n e (rw none at found) in
            let shift : first + 1 + later.0 ≡ first + suc later.0 = omega arith in
            (suc later.0, later.1, later.2, rw shift at later.3)
        | inr some ↦
            let here = rw some.1 at found in
            (0, some.0, some.1, rw add-zero (cc))
      ]

  pub within : (ps : List (Place T)) (n i : ℕ) (held : Resident T) → held_under n (place_at ps i) ≡ Some held → i < length ps
  within ps n i held found =
      elim (cases_lt i (length ps)) [
        | inl less ↦ less
        | inr past ↦ absurd (let free = get_or_past ps i (Free None) past in let bad = rw free at found in cc)
      ]
