-- The add on the next ticket.
use Rattle.std.proofs.Common.{◌≡◌, ◌≢◌, ℕ, ◌+◌, ◌^◌, ◌%◌, ◌<◌, ◌≤◌, true, false, List, [], ◌∷◌, ◌++◌, length, Option, None, sym, refl, ap, ◌∙◌, subst, inl, inr, ⊎_elim, mod-eq_of_lt, le_of_eq, arith}
use mathlib.Core.Option.{some, none}
use lib.ListN.{get_elem?}
use mathlib.Core.Bool.{true≢false}
use Rattle.atomic_table.specs.Table.{State, Me, step, keeps, stepped, Allows}
use Rattle.turn_book.specs.declared.view.Knows.{Knows}
use Rattle.turn_book.specs.Views.{SomeOf, place, knows, times, turns, is_ticket}
use Rattle.turn_book.specs.Rule.{Fits, Kept}
use Rattle.turn_book.specs.Plays.{drew, with_ticket}
use Rattle.turn_book.proofs.Owed.{at_words}
use Rattle.turn_book.proofs.Holders.{ticket_same, ticket_other}
use Rattle.turn_book.proofs.Lists.{which, total_set, total_same, each_set, some_set}

module _ {M E F : Type 0} (entries : M → List E) (fixed : M → F) (owner : F → E → ℕ) (start : M) (seats : ℕ) where
  abbrev Rule : State (Option M) (Knows E F) → Type 0
  Rule = Kept entries fixed owner start seats

  after : (id number l : ℕ) (seen o : List E) (f : Option F) → 0 < l → (s : State (Option M) (Knows E F)) (k : Rule s) → get_elem? s.views id ≡ some (knows (place number l seen ∷ []) None false o f)
      → Rule (stepped (record { words = k.next ∷ k.serving ∷ []; homes = s.homes; views = s.views }) 0 ((k.next + 1) % 2 ^ 64) id [] (with_ticket k.next (knows (place number l seen ∷ []) None false o f)) keeps)
  after id number l seen o f some_left s k at =
      let v : Knows E F = knows (place number l seen ∷ []) None false o f in
      let w : Knows E F = with_ticket k.next v in
      let paid = total_set (λ (u : Knows E F). turns u.own) s.views id v w at in
      let drawn = λ (t : ℕ). total_set (λ (u : Knows E F). is_ticket t u.ticket) s.views id v w at in
      let low : k.next + 1 < 2 ^ 64 = omega (arith, k.paid, k.few) in
      record {
        since = k.since;
        next = k.next + 1;
        serving = k.serving;
        words = ap (λ n. n ∷ k.serving ∷ []) (mod-eq_of_lt low);
        order = omega (arith, k.order);
        few = k.few;
        paid = omega (arith, k.paid, paid);
        carried = λ n lt. total_same (λ (u : Knows E F). times n u.own) s.views id v w at refl ∙ k.carried n lt;
        no_other = λ n le. total_same (λ (u : Knows E F). times n u.own) s.views id v w at refl ∙ k.no_other n le;
        places = total_same (λ (u : Knows E F). length u.own) s.views id v w at refl ∙ k.places;
        waited = λ t low high. ⊎_elim
            (λ (e : t ≡ k.next). let none_yet = k.no_ticket t (inr (le_of_eq (sym e))) in let one = ticket_same k.next t (sym e) in let moved = drawn t in omega arith)
            (λ (n : t ≢ k.next). let there = k.waited t low (omega arith) in let none = ticket_other k.next t (λ e. n (sym e)) in let moved = drawn t in omega arith)
            (which t k.next);
        no_ticket = λ t out. let moved = drawn t in let none = ticket_other k.next t (λ e. ⊎_elim (λ (lt : t < k.serving). let le = k.order in omega arith) (λ (le : k.next + 1 ≤ t). omega arith) out) in
            let was = k.no_ticket t (⊎_elim (λ lt. inl lt) (λ (le : k.next + 1 ≤ t). inr (omega arith)) out) in omega arith;
        fits = each_set (Fits (owner (fixed start)) (entries start) (fixed start) (entries start ++ k.since) k.serving) _ s.views id w
            (let was = k.fits id v at in record { places = was.places; turn = λ e. absurd (true≢false (sym e)) })
            (λ j u ne there h. h) k.fits;
        slot = ⊎_elim
            (λ home. inl (home.0, home.1, home.2, home.3, each_set (λ (u : Knows E F). u.served ≡ false) (λ u. u.served ≡ false) s.views id w refl (λ j u ne there h. h) home.4))
            (λ out. inr (out.0, some_set (λ (u : Knows E F). u.served ≡ true) s.views id v w at (λ h. h) out.1))
            k.slot;
        owned = k.owned;
        longest = some_set (λ (u : Knows E F). SomeOf (λ p. p.seen ≡ entries start ++ k.since) u.own) s.views id v w at (λ h. h) k.longest;
      }

  pub draws : (slots id number turns_left : ℕ) (seen o : List E) (f : Option F) → 0 < turns_left
      → Allows Rule slots id (knows (place number turns_left seen ∷ []) None false o f, []) 0 (λ n. (n + 1) % 2 ^ 64) (drew (step slots 0 1 0 none) (knows (place number turns_left seen ∷ []) None false o f, []))
  draws slots id number l seen o f some_left s k sized at fits =
      let v : Knows E F = knows (place number l seen ∷ []) None false o f in
      at_words Rule s id (v, []) 0 (λ n. (n + 1) % 2 ^ 64) (drew (step slots 0 1 0 none) (v, [])) (k.next ∷ k.serving ∷ []) k.words (with_ticket k.next v, keeps, tt, after id number l seen o f some_left s k at, refl)

  -- the same for a seat that is known to be so
  pub draws_from : (slots id number l : ℕ) (seen o : List E) (f : Option F) (me : Me (Option M) (Knows E F)) → me ≡ (knows (place number l seen ∷ []) None false o f, []) → 0 < l
      → Allows Rule slots id me 0 (λ n. (n + 1) % 2 ^ 64) (drew (step slots 0 1 0 none) me)
  draws_from slots id number l seen o f me e some_left = subst (λ m. Allows Rule slots id m 0 (λ n. (n + 1) % 2 ^ 64) (drew (step slots 0 1 0 none) m)) (sym e) (draws slots id number l seen o f some_left)
