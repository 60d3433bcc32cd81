-- Under the rule no two seats have one ticket, or carry one number.
use Rattle.std.proofs.Common.{◌≡◌, ◌≢◌, ℕ, ◌<◌, ◌≤◌, true, false, List, [], ◌∷◌, Option, Some, refl, ap, ◌∙◌, inl, inr, ⊎_elim, eq-eqb, ne_eqb, lt_of_not-le, ◌==◌, arith}
use mathlib.Core.Option.{some}
use mathlib.Core.Bool.{Bool}
use mathlib.Core.Logic.{dite}
use native.Mathlib.Decide.{dec_le}
use lib.ListN.{get_elem?}
use Rattle.atomic_table.specs.Table.{State}
use Rattle.turn_book.specs.declared.view.Place.{Place}
use Rattle.turn_book.specs.declared.view.Knows.{Knows}
use Rattle.turn_book.specs.Views.{Each, times, is_ticket, one_if, total}
use Rattle.turn_book.specs.Rule.{Kept}
use Rattle.turn_book.proofs.Lists.{which, total_two, total_one}

-- a ticket counts exactly where its number is the same
pub ticket_same : (t u : ℕ) → t ≡ u → is_ticket u (Some t) ≡ 1
ticket_same t u e = ap one_if (eq-eqb t u e)

pub ticket_other : (t u : ℕ) → t ≢ u → is_ticket u (Some t) ≡ 0
ticket_other t u n = ap one_if (ne_eqb t u n)

-- a number that isn't counted is no place's
pub times_none : {E : Type 0} (n : ℕ) (ps : List (Place E)) → times n ps ≡ 0 → Each (λ p. p.number ≢ n) ps
times_none n [] e = tt
times_none n (p ∷ ps) e = (λ same. let one : one_if (p.number == n) ≡ 1 = ap one_if (eq-eqb p.number n same) in absurd (omega arith), times_none n ps (omega arith))

not_true : (b : Bool) → (b ≡ true → ⊥) → b ≡ false
not_true true f = absurd (f refl)
not_true false f = refl

pub some_same : {X : Type 0} (x y : X) → Some x ≡ Some y → x ≡ y
some_same x y e = cc

pub times_here : {E : Type 0} (p : Place E) (ps : List (Place E)) → 0 < times p.number (p ∷ ps)
times_here p ps = let one : one_if (p.number == p.number) ≡ 1 = ap one_if (eq-eqb p.number p.number refl) in omega arith

module _ {M E F : Type 0} (entries : M → List E) (fixed : M → F) (owner : F → E → ℕ) (start : M) (seats : ℕ) (s : State (Option M) (Knows E F)) (k : Kept entries fixed owner start seats s) where
  pub tickets_at_most_one : (t : ℕ) → total (λ (v : Knows E F). is_ticket t v.ticket) s.views ≤ 1
  tickets_at_most_one t = dite (dec_le k.serving t)
      (λ low. dite (dec_le k.next t) (λ high. let none = k.no_ticket t (inr high) in omega arith) (λ n. let one = k.waited t low (lt_of_not-le n) in omega arith))
      (λ n. let none = k.no_ticket t (inl (lt_of_not-le n)) in omega arith)

  pub numbers_at_most_one : (n : ℕ) → total (λ (v : Knows E F). times n v.own) s.views ≤ 1
  numbers_at_most_one n = dite (dec_le seats n) (λ high. let none = k.no_other n high in omega arith) (λ m. let one = k.carried n (lt_of_not-le m) in omega arith)

  -- a ticket that some seat has is one from the served one on
  pub ticket_waits : (i t : ℕ) (v : Knows E F) → get_elem? s.views i ≡ some v → v.ticket ≡ Some t → (k.serving ≤ t) × (t < k.next)
  ticket_waits i t v at e =
      let one : is_ticket t v.ticket ≡ 1 = ap (is_ticket t) e ∙ ticket_same t t refl in
      let le = total_one (λ (u : Knows E F). is_ticket t u.ticket) s.views i v at in (
        dite (dec_le k.serving t) (λ low. low) (λ n. let none = k.no_ticket t (inl (lt_of_not-le n)) in absurd (omega arith)),
        dite (dec_le k.next t) (λ high. let none = k.no_ticket t (inr high) in absurd (omega arith)) (λ n. lt_of_not-le n),
      )

  pub one_holder : (i j t : ℕ) (v w : Knows E F) → get_elem? s.views i ≡ some v → get_elem? s.views j ≡ some w → v.ticket ≡ Some t → w.ticket ≡ Some t → j ≡ i
  one_holder i j t v w at there e d = ⊎_elim (λ same. same)
      (λ ne.
      let f : Knows E F → ℕ = λ u. is_ticket t u.ticket in
      let one : f v ≡ 1 = ap (is_ticket t) e ∙ ticket_same t t refl in
      let two : f w ≡ 1 = ap (is_ticket t) d ∙ ticket_same t t refl in
      let le = total_two f s.views i j v w at there ne in
      let most = tickets_at_most_one t in
      absurd (omega arith))
      (which j i)

  -- another seat carries none of the numbers that this one carries
  pub carried_else : (i j n : ℕ) (v w : Knows E F) → get_elem? s.views i ≡ some v → get_elem? s.views j ≡ some w → j ≢ i → 0 < times n v.own → Each (λ p. p.number ≢ n) w.own
  carried_else i j n v w at there ne some_here =
      let le = total_two (λ (u : Knows E F). times n u.own) s.views i j v w at there ne in
      let most = numbers_at_most_one n in
      times_none n w.own (omega arith)

  -- a number that some seat carries is below the number of seats
  pub number_below : (i n : ℕ) (v : Knows E F) → get_elem? s.views i ≡ some v → 0 < times n v.own → n < seats
  number_below i n v at some_here =
      let le = total_one (λ (u : Knows E F). times n u.own) s.views i v at in
      dite (dec_le seats n) (λ high. let none = k.no_other n high in absurd (omega arith)) (λ m. lt_of_not-le m)

  -- a seat beside one that is in its turn isn't in its turn
  pub unserved_else : (i j : ℕ) (v w : Knows E F) → get_elem? s.views i ≡ some v → get_elem? s.views j ≡ some w → v.served ≡ true → j ≢ i → w.served ≡ false
  unserved_else i j v w at there served ne =
      not_true w.served (λ is. ne (one_holder i j k.serving v w at there ((k.fits i v at).turn served).0 ((k.fits j w there).turn is).0))
