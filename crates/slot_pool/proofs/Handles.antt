-- The test of two handles, and look-ups by it.
use Rattle.std.proofs.Common.{◌≡◌, ◌≢◌, ◌⊎◌, ◌+◌, Bool, true, false, List, [], ◌∷◌, ◌++◌, length, Option, Some, None, refl, ap, ◌∙◌, inl, inr, arith}
use Rattle.std.proofs.lemmas.Bool.{eq-eqb}
use Rattle.std.proofs.lemmas.Bool.Decides.{eqb_tells}
use Rattle.std.specs.Map.{lookup, remove_entry, set_value}
use Rattle.slot_pool.specs.declared.handle.Handle.{Handle}
use Rattle.slot_pool.specs.Handle.{same_handle}

pub option_cases : {X : Type 0} (o : Option X) → (o ≡ None) ⊎ ((x : X) × (o ≡ Some x))
option_cases None = inl refl
option_cases (Some x) = inr (x, refl)

pub bool_cases : (b : Bool) → (b ≡ true) ⊎ (b ≡ false)
bool_cases true = inl refl
bool_cases false = inr refl

pub Handle-same : (a b : Handle) → a.place ≡ b.place → a.number ≡ b.number → a ≡ b
Handle-same a b p n =
    let first : a ≡ record { number = b.number; place = a.place } = ap (λ x. record { number = x; place = a.place }) n in
    let second : record { number = b.number; place = a.place } ≡ b = ap (λ x. record { number = b.number; place = x }) p in
    first ∙ second

pub same_handle_refl : (a : Handle) → same_handle a a ≡ true
same_handle_refl a = rw (eq-eqb a.place a.place refl, eq-eqb a.number a.number refl) refl

-- the test and what it tells
pub same_handle_tells : (a b : Handle) → ((same_handle a b ≡ true) × (a ≡ b)) ⊎ ((same_handle a b ≡ false) × (a ≢ b))
same_handle_tells a b =
    elim (eqb_tells a.place b.place) [
      | inl place ↦ elim (eqb_tells a.number b.number) [
        | inl number ↦ inl (rw (place.0, number.0) refl, Handle-same a b place.1 number.1)
        | inr number ↦ inr (rw (place.0, number.0) refl, λ e. number.1 (ap (λ h. h.number) e))
      ]
      | inr place ↦ inr (rw place.0 refl, λ e. place.1 (ap (λ h. h.place) e))
    ]

pub same_handle-other : (a b : Handle) → a ≢ b → same_handle a b ≡ false
same_handle-other a b differs = elim (same_handle_tells a b) [ inl t ↦ absurd (differs t.1) | inr f ↦ f.0 ]

module _ {K X : Type 0} (test : K → Bool) where
  pub lookup-append_none : (xs ys : List (K × X)) → lookup test xs ≡ None → lookup test (xs ++ ys) ≡ lookup test ys
  lookup-append_none [] ys none = refl
  lookup-append_none (e ∷ xs) ys none =
      elim (bool_cases (test e.0)) [
        | inl hit ↦ absurd (let bad = rw hit at none in cc)
        | inr miss ↦ rw miss (lookup-append_none xs ys (rw miss at none))
      ]

  pub lookup-append_some : (xs ys : List (K × X)) (x : X) → lookup test xs ≡ Some x → lookup test (xs ++ ys) ≡ Some x
  lookup-append_some [] ys x found = absurd (cc)
  lookup-append_some (e ∷ xs) ys x found =
      elim (bool_cases (test e.0)) [
        | inl hit ↦ rw hit (rw hit at found)
        | inr miss ↦ rw miss (lookup-append_some xs ys x (rw miss at found))
      ]

  pub remove_entry-append_none : (xs ys : List (K × X)) → lookup test xs ≡ None → remove_entry test (xs ++ ys) ≡ xs ++ remove_entry test ys
  remove_entry-append_none [] ys none = refl
  remove_entry-append_none (e ∷ xs) ys none =
      elim (bool_cases (test e.0)) [
        | inl hit ↦ absurd (let bad = rw hit at none in cc)
        | inr miss ↦ rw miss (ap (λ l. e ∷ l) (remove_entry-append_none xs ys (rw miss at none)))
      ]

  pub remove_entry-append_some : (xs ys : List (K × X)) (x : X) → lookup test xs ≡ Some x → remove_entry test (xs ++ ys) ≡ remove_entry test xs ++ ys
  remove_entry-append_some [] ys x found = absurd (cc)
  remove_entry-append_some (e ∷ xs) ys x found =
      elim (bool_cases (test e.0)) [
        | inl hit ↦ rw hit refl
        | inr miss ↦ rw miss (ap (λ l. e ∷ l) (remove_entry-append_some xs ys x (rw miss at found)))
      ]

  pub length-remove_entry : (xs : List (K × X)) (x : X) → lookup test xs ≡ Some x → length (remove_entry test xs) + 1 ≡ length xs
  length-remove_entry [] x found = absurd (cc)
  length-remove_entry (e ∷ xs) x found =
      elim (bool_cases (test e.0)) [
        | inl hit ↦ rw hit (omega arith)
        | inr miss ↦ rw miss (omega (arith, length-remove_entry xs x (rw miss at found)))
      ]

  pub remove_entry-none : (xs : List (K × X)) → lookup test xs ≡ None → remove_entry test xs ≡ xs
  remove_entry-none [] none = refl
  remove_entry-none (e ∷ xs) none =
      elim (bool_cases (test e.0)) [
        | inl hit ↦ absurd (let bad = rw hit at none in cc)
        | inr miss ↦ rw miss (ap (λ l. e ∷ l) (remove_entry-none xs (rw miss at none)))
      ]

  pub set_value-append_none : (xs ys : List (K × X)) (w : X) → lookup test xs ≡ None → set_value test (xs ++ ys) w ≡ xs ++ set_value test ys w
  set_value-append_none [] ys w none = refl
  set_value-append_none (e ∷ xs) ys w none =
      elim (bool_cases (test e.0)) [
        | inl hit ↦ absurd (let bad = rw hit at none in cc)
        | inr miss ↦ rw miss (ap (λ l. e ∷ l) (set_value-append_none xs ys w (rw miss at none)))
      ]

  pub set_value-append_some : (xs ys : List (K × X)) (w x : X) → lookup test xs ≡ Some x → set_value test (xs ++ ys) w ≡ set_value test xs w ++ ys
  set_value-append_some [] ys w x found = absurd (cc)
  set_value-append_some (e ∷ xs) ys w x found =
      elim (bool_cases (test e.0)) [
        | inl hit ↦ rw hit refl
        | inr miss ↦ rw miss (ap (λ l. e ∷ l) (set_value-append_some xs ys w x (rw miss at found)))
      ]
