-- A seat is cut in two, and two are put together.
use Rattle.std.proofs.Common.{◌≡◌, ℕ, ◌+◌, true, false, List, [], ◌∷◌, ◌++◌, length, set, Option, Some, None, sym, refl, ap, ◌∙◌, subst, subst₂, inl, inr, ⊎_elim, length-append, arith}
use mathlib.Core.Option.{some, some-injective}
use mathlib.Core.Bool.{true≢false}
use lib.ListN.{get_elem?}
use Rattle.atomic_table.specs.Table.{State, Splits, Joins}
use Rattle.atomic_table.proofs.Lists.{set_else, set_here, at_last}
use Rattle.turn_book.specs.declared.view.Place.{Place}
use Rattle.turn_book.specs.declared.view.Knows.{Knows}
use Rattle.turn_book.specs.Views.{SomeOf, knows, times, turns, is_ticket}
use Rattle.turn_book.specs.Rule.{Saw, Fits, Kept}
use Rattle.turn_book.specs.Plays.{joined, spent, one_place, other_places}
use Rattle.turn_book.proofs.Lists.{which, at_within, each_append, some_front, some_back, total_cut, total_joined, each_set, each_snoc, some_set, some_here, some_longer}

times_append : {E : Type 0} (n : ℕ) (ps qs : List (Place E)) → times n (ps ++ qs) ≡ times n ps + times n qs
times_append n [] qs = omega arith
times_append n (p ∷ ps) qs = let h = times_append n ps qs in omega arith

turns_append : {E : Type 0} (ps qs : List (Place E)) → turns (ps ++ qs) ≡ turns ps + turns qs
turns_append [] qs = omega arith
turns_append (p ∷ ps) qs = let h = turns_append ps qs in omega arith

module _ {M E F : Type 0} (entries : M → List E) (fixed : M → F) (owner : F → E → ℕ) (start : M) (seats : ℕ) where
  abbrev Rule : State (Option M) (Knows E F) → Type 0
  Rule = Kept entries fixed owner start seats

  abbrev rests : List (Place E) → List E → Option F → Knows E F
  rests ps o f = knows ps None false o f

  pub splits : (id : ℕ) (p : Place E) (ps : List (Place E)) (o : List E) (f : Option F) → Splits Rule id (rests (p ∷ ps) o f) (rests (p ∷ []) o f) (rests ps o f)
  splits id p ps o f s k at =
      let v = rests (p ∷ ps) o f in
      let l = rests (p ∷ []) o f in
      let r = rests ps o f in
      let mine = (k.fits id v at).places in
      let history : List E = entries start ++ k.since in
      let P : Knows E F → Type 0 = λ u. SomeOf (λ q. q.seen ≡ history) u.own in
      record {
        since = k.since;
        next = k.next;
        serving = k.serving;
        words = k.words;
        order = k.order;
        few = k.few;
        paid = ap (λ n. k.next + n) (total_cut (λ (u : Knows E F). turns u.own) s.views id v l r at (omega arith)) ∙ k.paid;
        carried = λ n lt. total_cut (λ (u : Knows E F). times n u.own) s.views id v l r at (omega arith) ∙ k.carried n lt;
        no_other = λ n le. total_cut (λ (u : Knows E F). times n u.own) s.views id v l r at (omega arith) ∙ k.no_other n le;
        places = total_cut (λ (u : Knows E F). length u.own) s.views id v l r at (omega arith) ∙ k.places;
        waited = λ t low high. total_cut (λ (u : Knows E F). is_ticket t u.ticket) s.views id v l r at refl ∙ k.waited t low high;
        no_ticket = λ t far. total_cut (λ (u : Knows E F). is_ticket t u.ticket) s.views id v l r at refl ∙ k.no_ticket t far;
        fits = each_snoc (Fits (owner (fixed start)) (entries start) (fixed start) history k.serving) (set s.views id l) r
            (each_set _ _ s.views id l (record { places = (mine.0, tt); turn = λ e. absurd (true≢false (sym e)) }) (λ j u ne there h. h) k.fits)
            (record { places = mine.1; turn = λ e. absurd (true≢false (sym e)) });
        slot = ⊎_elim
            (λ home. inl (home.0, home.1, home.2, home.3, each_snoc (λ (u : Knows E F). u.served ≡ false) (set s.views id l) r (each_set _ _ s.views id l refl (λ j u ne there h. h) home.4) refl))
            (λ away. inr (away.0, some_longer (λ (u : Knows E F). u.served ≡ true) (set s.views id l) (r ∷ []) (some_set (λ (u : Knows E F). u.served ≡ true) s.views id v l at (λ h. h) away.1)))
            k.slot;
        owned = k.owned;
        longest = let h = k.longest in ⊎_elim
            (λ (same : h.0 ≡ id).
            let equal : some h.1 ≡ some v = sym h.2 ∙ ap (get_elem? s.views) same ∙ at in
            let there : P v = subst P (some-injective h.1 v equal) h.3 in
            ⊎_elim
            (λ e. some_longer P (set s.views id l) (r ∷ []) (some_here P s.views id v l at (inl e)))
            (λ q. (length (set s.views id l), r, at_last (set s.views id l) r (length (set s.views id l)) refl, q))
            there)
            (λ ne. some_longer P (set s.views id l) (r ∷ []) (h.0, h.1, set_else s.views id h.0 l ne ∙ h.2, h.3))
            (which h.0 id);
      }

  pub joins : (id other : ℕ) (ps qs : List (Place E)) (o : List E) (f : Option F) → Joins Rule id (rests ps o f) other (rests qs o f) (rests (qs ++ ps) o f) spent
  joins id other ps qs o f s k at apart there' =
      let v = rests ps o f in
      let w = rests qs o f in
      let both = rests (qs ++ ps) o f in
      let there : get_elem? s.views other ≡ some w = sym (set_else s.views id other both apart) ∙ there' in
      let history : List E = entries start ++ k.since in
      let P : Knows E F → Type 0 = λ u. SomeOf (λ q. q.seen ≡ history) u.own in
      record {
        since = k.since;
        next = k.next;
        serving = k.serving;
        words = k.words;
        order = k.order;
        few = k.few;
        paid = ap (λ n. k.next + n) (total_joined (λ (u : Knows E F). turns u.own) s.views id other v w both spent at there' (turns_append qs ps) refl) ∙ k.paid;
        carried = λ n lt. total_joined (λ (u : Knows E F). times n u.own) s.views id other v w both spent at there' (times_append n qs ps) refl ∙ k.carried n lt;
        no_other = λ n le. total_joined (λ (u : Knows E F). times n u.own) s.views id other v w both spent at there' (times_append n qs ps) refl ∙ k.no_other n le;
        places = total_joined (λ (u : Knows E F). length u.own) s.views id other v w both spent at there' (length-append qs ps) refl ∙ k.places;
        waited = λ t low high. total_joined (λ (u : Knows E F). is_ticket t u.ticket) s.views id other v w both spent at there' refl refl ∙ k.waited t low high;
        no_ticket = λ t far. total_joined (λ (u : Knows E F). is_ticket t u.ticket) s.views id other v w both spent at there' refl refl ∙ k.no_ticket t far;
        fits = each_set _ (Fits (owner (fixed start)) (entries start) (fixed start) history k.serving) (set s.views id both) other spent
            (record { places = tt; turn = λ e. absurd (true≢false (sym e)) }) (λ j u ne t h. h)
            (each_set _ _ s.views id both
            (record {
              places = each_append (λ p. Saw (owner (fixed start)) history p × (o ≡ entries start) × (f ≡ Some (fixed start))) qs ps (k.fits other w there).places (k.fits id v at).places;
              turn = λ e. absurd (true≢false (sym e));
            })
            (λ j u ne t h. h) k.fits);
        slot = ⊎_elim
            (λ home. inl (home.0, home.1, home.2, home.3, each_set _ (λ (u : Knows E F). u.served ≡ false) (set s.views id both) other spent refl (λ j u ne t h. h) (each_set _ _ s.views id both refl (λ j u ne t h. h) home.4)))
            (λ away. inr (away.0, some_set (λ (u : Knows E F). u.served ≡ true) (set s.views id both) other w spent there' (λ h. h) (some_set (λ (u : Knows E F). u.served ≡ true) s.views id v both at (λ h. h) away.1)))
            k.slot;
        owned = k.owned;
        longest = let h = k.longest in ⊎_elim
            (λ (same : h.0 ≡ other).
            let equal : some h.1 ≡ some w = sym h.2 ∙ ap (get_elem? s.views) same ∙ there in
            let seen : P w = subst P (some-injective h.1 w equal) h.3 in
            (id, both, set_else (set s.views id both) other id spent (λ e. apart (sym e)) ∙ set_here s.views id both (at_within s.views id v at), some_front (λ q. q.seen ≡ history) qs ps seen))
            (λ ne. ⊎_elim
            (λ (same : h.0 ≡ id).
            let equal : some h.1 ≡ some v = sym h.2 ∙ ap (get_elem? s.views) same ∙ at in
            let seen : P v = subst P (some-injective h.1 v equal) h.3 in
            (id, both, set_else (set s.views id both) other id spent (λ e. apart (sym e)) ∙ set_here s.views id both (at_within s.views id v at), some_back (λ q. q.seen ≡ history) qs ps seen))
            (λ else. (h.0, h.1, set_else (set s.views id both) other h.0 spent ne ∙ set_else s.views id h.0 both else ∙ h.2, h.3))
            (which h.0 id))
            (which h.0 other);
      }

  -- the same for seats that are known to be so
  pub splits_from : (id : ℕ) (p : Place E) (ps : List (Place E)) (o : List E) (f : Option F) (v : Knows E F) → v ≡ rests (p ∷ ps) o f → Splits Rule id v (one_place v) (other_places v)
  splits_from id p ps o f v e = subst (λ u. Splits Rule id u (one_place u) (other_places u)) (sym e) (splits id p ps o f)

  pub joins_from : (id other : ℕ) (ps qs : List (Place E)) (o : List E) (f : Option F) (v w : Knows E F) → v ≡ rests ps o f → w ≡ rests qs o f → Joins Rule id v other w (joined v w) spent
  joins_from id other ps qs o f v w e d = subst₂ (λ u x. Joins Rule id u other x (joined u x) spent) (sym e) (sym d) (joins id other ps qs o f)
