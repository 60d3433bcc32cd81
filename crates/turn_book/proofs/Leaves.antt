-- The add on the served ticket, with which the value goes home.
use Rattle.std.proofs.Common.{◌≡◌, ◌≢◌, ℕ, ◌+◌, ◌^◌, ◌%◌, ◌<◌, true, List, [], ◌∷◌, ◌++◌, length, set, Option, Some, sym, refl, ap, ◌∙◌, subst, inl, inr, ⊎_elim, append-nil, append_assoc, mod-eq_of_lt, arith}
use mathlib.Core.Option.{some, none}
use mathlib.Core.Bool.{true≢false}
use lib.ListN.{get_elem?}
use Rattle.atomic_table.specs.Table.{State, Me, step, gives, stepped, Allows}
use Rattle.atomic_table.proofs.Lists.{at_set}
use Rattle.turn_book.specs.declared.view.Place.{Place}
use Rattle.turn_book.specs.declared.view.Knows.{Knows}
use Rattle.turn_book.specs.Views.{Each, SomeOf, place, knows, times, turns, is_ticket}
use Rattle.turn_book.specs.Rule.{Saw, Fits, Kept}
use Rattle.turn_book.specs.Plays.{left, at_rest}
use Rattle.turn_book.proofs.Owed.{at_words}
use Rattle.turn_book.proofs.Holders.{carried_else, ticket_waits, tickets_at_most_one, ticket_same, ticket_other, some_same, times_here, number_below, unserved_else}
use Rattle.turn_book.proofs.Lists.{which, each_append, each_as, total_set, total_same, each_set, some_here}

-- what a history gained that begins with what was seen
module _ {E : Type 0} (who : E → ℕ) where
  -- a place of another number has seen a front of the longer history too
  saw_more : (history gained : List E) (n : ℕ) → Each (λ e. who e ≡ n) gained → (p : Place E) → p.number ≢ n → Saw who history p → Saw who (history ++ gained) p
  saw_more history gained n all p ne saw = (
    saw.0 ++ gained,
    ap (λ h. h ++ gained) saw.1 ∙ append_assoc p.seen saw.0 gained,
    each_append (λ e. who e ≢ p.number) saw.0 gained saw.2 (each_as (λ e. who e ≡ n) (λ e. who e ≢ p.number) (λ e is same. ne (sym same ∙ is)) gained all),
  )

  saw_more_each : (history gained : List E) (n : ℕ) → Each (λ e. who e ≡ n) gained → (Q R : Type 0) (ps : List (Place E)) → Each (λ p. p.number ≢ n) ps
      → Each (λ p. Saw who history p × Q × R) ps → Each (λ p. Saw who (history ++ gained) p × Q × R) ps
  saw_more_each history gained n all Q R [] ne h = tt
  saw_more_each history gained n all Q R (p ∷ ps) ne h = ((saw_more history gained n all p ne.0 h.0.0, h.0.1, h.0.2), saw_more_each history gained n all Q R ps ne.1 h.1)

abbrev head_seen : {E : Type 0} → List (Place E) → List E
head_seen [] = []
head_seen (p ∷ ps) = p.seen

module _ {M E F : Type 0} (entries : M → List E) (fixed : M → F) (owner : F → E → ℕ) (start : M) (seats : ℕ) where
  abbrev Rule : State (Option M) (Knows E F) → Type 0
  Rule = Kept entries fixed owner start seats

  abbrev serves : ℕ → ℕ → List E → ℕ → List E → Option F → Knows E F
  serves number l seen ticket o f = knows (place number l seen ∷ []) (Some ticket) true o f

  after : (s : State (Option M) (Knows E F)) (k : Rule s) (id number l ticket : ℕ) (seen o : List E) (f : Option F) → get_elem? s.views id ≡ some (serves number l seen ticket o f)
      → (value : M) (gained : List E) → entries value ≡ seen ++ gained → Each (λ e. owner (fixed value) e ≡ number) gained → f ≡ Some (fixed value)
      → Rule (stepped (record { words = k.next ∷ k.serving ∷ []; homes = s.homes; views = s.views }) 1 ((k.serving + 1) % 2 ^ 64) id ((0, Some value) ∷ []) (at_rest (entries value) (serves number l seen ticket o f)) gives)
  after s k id number l ticket seen o f at value gained grows all same =
      let v = serves number l seen ticket o f in
      let w = at_rest (entries value) v in
      let mine = (k.fits id v at).places.0 in
      let turn = (k.fits id v at).turn refl in
      let same_ticket : ticket ≡ k.serving = some_same ticket k.serving turn.0 in
      let history : List E = entries start ++ k.since in
      let all_seen : seen ≡ history = ap head_seen turn.1.1 ∙ turn.1.2 in
      let part : fixed value ≡ fixed start = some_same (fixed value) (fixed start) (sym same ∙ mine.2) in
      let whole : entries value ≡ entries start ++ (k.since ++ gained) = grows ∙ ap (λ h. h ++ gained) all_seen ∙ append_assoc (entries start) k.since gained in
      let longer : history ++ gained ≡ entries start ++ (k.since ++ gained) = append_assoc (entries start) k.since gained in
      let all' : Each (λ e. owner (fixed start) e ≡ number) gained = subst (λ x. Each (λ e. owner x e ≡ number) gained) part all in
      let wait = ticket_waits entries fixed owner start seats s k id k.serving v at turn.0 in
      let below = number_below entries fixed owner start seats s k id number v at (times_here (place number l seen) []) in
      let drawn = λ (t : ℕ). total_set (λ (u : Knows E F). is_ticket t u.ticket) s.views id v w at in
      let low : k.serving + 1 < 2 ^ 64 = let a = wait.1 in omega (arith, k.paid, k.few) in
      record {
        since = k.since ++ gained;
        next = k.next;
        serving = k.serving + 1;
        words = ap (λ n. k.next ∷ n ∷ []) (mod-eq_of_lt low);
        order = let a = wait.1 in omega arith;
        few = k.few;
        paid = ap (λ n. k.next + n) (total_same (λ (u : Knows E F). turns u.own) s.views id v w at refl) ∙ k.paid;
        carried = λ n lt. total_same (λ (u : Knows E F). times n u.own) s.views id v w at refl ∙ k.carried n lt;
        no_other = λ n le. total_same (λ (u : Knows E F). times n u.own) s.views id v w at refl ∙ k.no_other n le;
        places = total_same (λ (u : Knows E F). length u.own) s.views id v w at refl ∙ k.places;
        waited = λ t past high. let one = k.waited t (omega arith) high in let moved = drawn t in
            let none = ticket_other ticket t (λ e. let back : k.serving ≡ t = sym same_ticket ∙ e in omega arith) in omega arith;
        no_ticket = λ t far. let moved = drawn t in ⊎_elim
            (λ (e : ticket ≡ t). let one = ticket_same ticket t e in let most = tickets_at_most_one entries fixed owner start seats s k t in omega arith)
            (λ (n : ticket ≢ t). let none = ticket_other ticket t n in
            let was = k.no_ticket t (⊎_elim (λ (lt : t < k.serving + 1). inl (let m : t ≢ k.serving = λ e. n (same_ticket ∙ sym e) in omega arith)) (λ le. inr le) far) in omega arith)
            (which ticket t);
        fits = each_set (Fits (owner (fixed start)) (entries start) (fixed start) history k.serving) _ s.views id w
            (record { places = ((([], sym whole ∙ sym (append-nil (entries value)), tt), mine.1, mine.2), tt); turn = λ e. absurd (true≢false (sym e)) })
            (λ j u ne there h. record {
              places = subst (λ x. Each (λ p. Saw (owner (fixed start)) x p × (u.opening ≡ entries start) × (u.fixed ≡ Some (fixed start))) u.own) longer
                  (saw_more_each (owner (fixed start)) history gained number all' (u.opening ≡ entries start) (u.fixed ≡ Some (fixed start)) u.own
                  (carried_else entries fixed owner start seats s k id j number v u at there ne (times_here (place number l seen) [])) h.places);
              turn = λ e. absurd (true≢false (sym e ∙ unserved_else entries fixed owner start seats s k id j v u at there refl ne));
            })
            k.fits;
        slot = inl (
          value,
          ⊎_elim
              (λ home. absurd (true≢false (home.4 id v at)))
              (λ away. ap (λ h. set h 0 (some (Some value))) away.0)
              k.slot,
          whole,
          part,
          λ j u there. ⊎_elim
              (λ (t : (j ≡ id) × (w ≡ u)). sym (ap (λ (x : Knows E F). x.served) t.1))
              (λ (t : (j ≢ id) × (get_elem? s.views j ≡ some u)). unserved_else entries fixed owner start seats s k id j v u at t.1 refl t.0)
              (at_set s.views id j w u there),
        );
        owned = each_append (λ e. owner (fixed start) e < seats) k.since gained k.owned (each_as (λ e. owner (fixed start) e ≡ number) (λ e. owner (fixed start) e < seats) (λ e is. (let i : owner (fixed start) e ≡ number = is in omega arith)) gained all');
        longest = some_here (λ (u : Knows E F). SomeOf (λ p. p.seen ≡ entries start ++ (k.since ++ gained)) u.own) s.views id v w at (inl whole);
      }

  pub leaves : (slots id number l ticket : ℕ) (seen o : List E) (f : Option F) (value : M) (gained : List E) → entries value ≡ seen ++ gained → Each (λ e. owner (fixed value) e ≡ number) gained → f ≡ Some (fixed value)
      → Allows Rule slots id (serves number l seen ticket o f, (0, Some value) ∷ []) 1 (λ n. (n + 1) % 2 ^ 64) (left entries (step slots 1 1 0 none) (serves number l seen ticket o f, (0, Some value) ∷ []))
  leaves slots id number l ticket seen o f value gained grows all same s k sized at fits =
      let v = serves number l seen ticket o f in
      at_words Rule s id (v, (0, Some value) ∷ []) 1 (λ n. (n + 1) % 2 ^ 64) (left entries (step slots 1 1 0 none) (v, (0, Some value) ∷ [])) (k.next ∷ k.serving ∷ []) k.words
      (at_rest (entries value) v, gives, tt, after s k id number l ticket seen o f at value gained grows all same, refl)

  -- the same for a seat that is known to be in its turn
  pub leaves_from : (slots id number l ticket : ℕ) (seen o : List E) (f : Option F) (value : M) (me : Me (Option M) (Knows E F)) → me ≡ (serves number l seen ticket o f, (0, Some value) ∷ [])
      → (gained : List E) → entries value ≡ seen ++ gained → Each (λ e. owner (fixed value) e ≡ number) gained → f ≡ Some (fixed value)
      → Allows Rule slots id me 1 (λ n. (n + 1) % 2 ^ 64) (left entries (step slots 1 1 0 none) me)
  leaves_from slots id number l ticket seen o f value me e gained grows all same =
      subst (λ m. Allows Rule slots id m 1 (λ n. (n + 1) % 2 ^ 64) (left entries (step slots 1 1 0 none) m)) (sym e) (leaves slots id number l ticket seen o f value gained grows all same)
