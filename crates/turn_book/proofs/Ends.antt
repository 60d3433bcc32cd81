-- The table at the start, and at the end.
use Rattle.std.proofs.Common.{◌≡◌, ◌≢◌, ◌⊎◌, ℕ, zero, suc, ◌+◌, ◌-◌, ◌*◌, ◌^◌, ◌<◌, ◌≤◌, true, false, List, [], ◌∷◌, ◌++◌, length, Option, Some, None, sym, refl, ap, ◌∙◌, subst, inl, inr, ⊎_elim, append-nil, ◌==◌, eq-eqb, ne_eqb, arith}
use mathlib.Core.Option.{some, some-injective, some-ne-none}
use mathlib.Core.Bool.{true≢false}
use lib.ListN.{get_elem?}
use Rattle.atomic_table.specs.Table.{State, opening, Final, Seen}
use Rattle.turn_book.specs.declared.view.Place.{Place}
use Rattle.turn_book.specs.declared.view.Knows.{Knows}
use Rattle.turn_book.specs.Views.{Each, SomeOf, place, knows, numbered, times, turns, one_if}
use Rattle.turn_book.specs.Rule.{Saw, EachView, AtHome, Kept, beginning}
use Rattle.turn_book.proofs.Lists.{which, total_two, total_alone, each_as}

-- Of numbered places each number in their range counts once, and no other
numbered_without : {E : Type 0} (seen : List E) (count from n : ℕ) → (n < from) ⊎ (from + count ≤ n) → times n (numbered seen from count) ≡ 0
numbered_without seen zero from n out = refl
numbered_without seen (suc c) from n out =
    let ne : from ≢ n = λ e. ⊎_elim (λ (lt : n < from). omega arith) (λ (le : from + suc c ≤ n). omega arith) out in
    let nothing : one_if (from == n) ≡ 0 = ap one_if (ne_eqb from n ne) in
    let rest = numbered_without seen c (from + 1) n (⊎_elim (λ (lt : n < from). inl (omega arith)) (λ (le : from + suc c ≤ n). inr (omega arith)) out) in omega arith

numbered_within : {E : Type 0} (seen : List E) (count from n : ℕ) → from ≤ n → n < from + count → times n (numbered seen from count) ≡ 1
numbered_within seen zero from n low high = absurd (omega arith)
numbered_within seen (suc c) from n low high = ⊎_elim
    (λ (e : from ≡ n). let one : one_if (from == n) ≡ 1 = ap one_if (eq-eqb from n e) in let rest = numbered_without seen c (from + 1) n (inl (omega arith)) in omega arith)
    (λ ne. let zero : one_if (from == n) ≡ 0 = ap one_if (ne_eqb from n ne) in let rest = numbered_within seen c (from + 1) n (omega arith) (omega arith) in omega arith)
    (which from n)

numbered_turns : {E : Type 0} (seen : List E) (count from : ℕ) → turns (numbered seen from count) ≡ count * 2 ^ 32
numbered_turns seen zero from = refl
numbered_turns seen (suc c) from = let h = numbered_turns seen c (from + 1) in omega arith

pub numbered_length : {E : Type 0} (seen : List E) (count from : ℕ) → length (numbered seen from count) ≡ count
numbered_length seen zero from = refl
numbered_length seen (suc c) from = let h = numbered_length seen c (from + 1) in omega arith

-- the first of the numbered places from a number on, and the others
pub numbered_more : {E : Type 0} (seen : List E) (seats n : ℕ) → n < seats → numbered seen n (seats - n) ≡ place n (2 ^ 32) seen ∷ numbered seen (n + 1) (seats - (n + 1))
numbered_more seen seats n lt = let e : seats - n ≡ suc (seats - (n + 1)) = omega arith in ap (numbered seen n) e

numbered_each : {E : Type 0} (P : Place E → Type 0) (seen : List E) → ((n : ℕ) → P (place n (2 ^ 32) seen)) → (count from : ℕ) → Each P (numbered seen from count)
numbered_each P seen h zero from = tt
numbered_each P seen h (suc c) from = (h from, numbered_each P seen h c (from + 1))

numbered_some : {E : Type 0} (P : Place E → Type 0) (seen : List E) → ((n : ℕ) → P (place n (2 ^ 32) seen)) → (count from : ℕ) → 0 < count → SomeOf P (numbered seen from count)
numbered_some P seen h zero from lt = absurd (omega arith)
numbered_some P seen h (suc c) from lt = inl (h from)

-- a number that counts is some place's
times_some : {E : Type 0} (n : ℕ) (ps : List (Place E)) → 0 < times n ps → SomeOf (λ p. p.number ≡ n) ps
times_some n [] lt = absurd (omega arith)
times_some n (p ∷ ps) lt = ⊎_elim (λ e. inl e)
    (λ ne. let nothing : one_if (p.number == n) ≡ 0 = ap one_if (ne_eqb p.number n ne) in inr (times_some n ps (omega arith)))
    (which p.number n)

no_places : {E : Type 0} (ps : List (Place E)) → length ps ≡ 0 → ps ≡ []
no_places [] e = refl
no_places (p ∷ ps) e = absurd (omega arith)

not_one : {A : Type 0} (x : A) → [] ≡ x ∷ [] → ⊥
not_one x e = cc

-- what is known of a list of one
of_one : {V : Type 0} (P : V → Type 0) (v : V) → P v → EachView P (v ∷ [])
of_one P v p zero u e = subst P (some-injective v u e) p
of_one P v p (suc j) u e = absurd (some-ne-none u (sym e))

module _ {M E F : Type 0} (entries : M → List E) (fixed : M → F) (owner : F → E → ℕ) (start : M) (seats : ℕ) where
  abbrev Rule : State (Option M) (Knows E F) → Type 0
  Rule = Kept entries fixed owner start seats

  pub opens : 0 < seats → seats ≤ 25 → Rule (opening (0 ∷ 0 ∷ []) (Some start ∷ []) (beginning (entries start) (fixed start) seats))
  opens some_seat few =
      let v : Knows E F = beginning (entries start) (fixed start) seats in
      let seen = entries start in
      record {
        since = [];
        next = 0;
        serving = 0;
        words = refl;
        order = omega arith;
        few = few;
        paid = let h = numbered_turns seen seats 0 in omega arith;
        carried = λ n lt. let h = numbered_within seen seats 0 n (omega arith) (omega arith) in omega arith;
        no_other = λ n le. let h = numbered_without seen seats 0 n (inr (omega arith)) in omega arith;
        places = let h = numbered_length seen seats 0 in omega arith;
        waited = λ t low high. absurd (omega arith);
        no_ticket = λ t far. refl;
        fits = of_one _ v (record {
          places = numbered_each _ seen (λ n. (([], refl, tt), refl, refl)) seats 0;
          turn = λ e. absurd (true≢false (sym e));
        });
        slot = inl (start, refl, sym (append-nil seen), refl, of_one (λ (u : Knows E F). u.served ≡ false) v refl);
        owned = tt;
        longest = (0, v, refl, numbered_some (λ p. p.seen ≡ seen ++ []) seen (λ n. sym (append-nil seen)) seats 0 some_seat);
      }

  -- The value at the end, where a seat at rest carries all places: it begins with what each has seen, in which stand all entries of the place's own, and each entry behind the opening is a place's
  pub record Ends (ps : List (Place E)) (slots : List (Option M)) : Type 0 where
    pub value : M
    pub here : get_elem? slots 0 ≡ some (Some value)
    pub same : fixed value ≡ fixed start
    pub seen : Each (Saw (owner (fixed start)) (entries value)) ps
    pub since : List E
    pub whole : entries value ≡ entries start ++ since
    pub numbers : (n : ℕ) → n < seats → SomeOf (λ p. p.number ≡ n) ps
    pub owned : Each (λ e. SomeOf (λ p. p.number ≡ owner (fixed start) e) ps) since

  pub ends : (id : ℕ) (ps : List (Place E)) (o : List E) (f : Option F) (words : List ℕ) (slots : List (Option M)) → length ps ≡ seats → Final (Seen Rule id (knows ps None false o f)) words slots → Ends ps slots
  ends id ps o f words slots all fin =
      let s = fin.0 in
      let k = fin.1.0 in
      let at = fin.1.1 in
      let v : Knows E F = knows ps None false o f in
      let bare : (j : ℕ) (u : Knows E F) → j ≢ id → get_elem? s.views j ≡ some u → u.own ≡ []
      = λ j u ne there. no_places u.own (let two = total_two (λ (x : Knows E F). length x.own) s.views id j v u at there ne in let sum = k.places in omega arith) in
      let not_out : (j : ℕ) (u : Knows E F) → get_elem? s.views j ≡ some u → u.served ≡ true → ⊥
      = λ j u there served. ⊎_elim
      (λ (same : j ≡ id).
      let equal : some u ≡ some v = sym there ∙ ap (get_elem? s.views) same ∙ at in
      true≢false (sym served ∙ ap (λ (x : Knows E F). x.served) (some-injective u v equal)))
      (λ ne. let one = ((k.fits j u there).turn served).1 in not_one one.0 (sym (bare j u ne there) ∙ one.1))
      (which j id) in
      let numbers : (n : ℕ) → n < seats → SomeOf (λ p. p.number ≡ n) ps
      = λ n lt. times_some n ps
      (let one = k.carried n lt in let sum = total_alone (λ (u : Knows E F). times n u.own) s.views id v at (λ j u ne there. ap (times n) (bare j u ne there)) in omega arith) in
      let home : AtHome entries fixed (fixed start) (entries start ++ k.since) s.homes s.views = ⊎_elim (λ home. home) (λ away. absurd (not_out away.1.0 away.1.1 away.1.2 away.1.3)) k.slot in
      record {
        value = home.0;
        here = fin.4 0 (Some home.0) (ap (λ h. get_elem? h 0) home.1);
        same = home.3;
        seen = each_as _ (Saw (owner (fixed start)) (entries home.0)) (λ p h. subst (λ x. Saw (owner (fixed start)) x p) (sym home.2) h.0) ps (k.fits id v at).places;
        since = k.since;
        whole = home.2;
        numbers = numbers;
        owned = each_as (λ e. owner (fixed start) e < seats) (λ e. SomeOf (λ p. p.number ≡ owner (fixed start) e) ps) (λ e lt. numbers (owner (fixed start) e) lt) k.since k.owned;
      }
