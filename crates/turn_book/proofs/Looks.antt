-- The load of the served ticket.
use Rattle.std.proofs.Common.{◌≡◌, ℕ, ◌+◌, true, false, List, [], ◌∷◌, ◌++◌, length, set, Option, Some, sym, refl, ap, ◌∙◌, subst, subst₂, inl, inr, ⊎_elim, append-nil}
use mathlib.Core.Option.{some, none, some-injective}
use mathlib.Core.Bool.{true≢false}
use lib.ListN.{get_elem?}
use Rattle.atomic_table.specs.Table.{State, Me, step, keeps, takes, stepped, Allows}
use Rattle.atomic_table.proofs.Lists.{set_again}
use Rattle.turn_book.specs.declared.view.Knows.{Knows}
use Rattle.turn_book.specs.Views.{SomeOf, place, knows, times, turns, is_ticket}
use Rattle.turn_book.specs.Rule.{Saw, Fits, AtHome, IsOut, Kept}
use Rattle.turn_book.specs.Plays.{looked, in_turn}
use Rattle.turn_book.proofs.Owed.{Owes, at_words}
use Rattle.turn_book.proofs.Holders.{one_holder, some_same}
use Rattle.turn_book.proofs.Lists.{which, total_same, each_set, some_here}

module _ {M E F : Type 0} (entries : M → List E) (fixed : M → F) (owner : F → E → ℕ) (start : M) (seats : ℕ) where
  abbrev Rule : State (Option M) (Knows E F) → Type 0
  Rule = Kept entries fixed owner start seats

  abbrev waits : ℕ → ℕ → List E → ℕ → List E → Option F → Knows E F
  waits number l seen ticket o f = knows (place number l seen ∷ []) (Some ticket) false o f

  -- the rule after the value came out
  out : (s : State (Option M) (Knows E F)) (k : Rule s) (id number l ticket : ℕ) (seen o : List E) (f : Option F) → get_elem? s.views id ≡ some (waits number l seen ticket o f) → k.serving ≡ ticket
      → (home : AtHome entries fixed (fixed start) (entries start ++ k.since) s.homes s.views)
      → Rule (stepped (record { words = k.next ∷ k.serving ∷ []; homes = s.homes; views = s.views }) 1 k.serving id [] (in_turn (entries home.0) (waits number l seen ticket o f)) (takes 0 (Some home.0)))
  out s k id number l ticket seen o f at same home =
      let v = waits number l seen ticket o f in
      let w = in_turn (entries home.0) v in
      let mine = (k.fits id v at).places.0 in
      record {
        since = k.since;
        next = k.next;
        serving = k.serving;
        words = refl;
        order = k.order;
        few = k.few;
        paid = ap (λ n. k.next + n) (total_same (λ (u : Knows E F). turns u.own) s.views id v w at refl) ∙ k.paid;
        carried = λ n lt. total_same (λ (u : Knows E F). times n u.own) s.views id v w at refl ∙ k.carried n lt;
        no_other = λ n le. total_same (λ (u : Knows E F). times n u.own) s.views id v w at refl ∙ k.no_other n le;
        places = total_same (λ (u : Knows E F). length u.own) s.views id v w at refl ∙ k.places;
        waited = λ t low high. total_same (λ (u : Knows E F). is_ticket t u.ticket) s.views id v w at refl ∙ k.waited t low high;
        no_ticket = λ t far. total_same (λ (u : Knows E F). is_ticket t u.ticket) s.views id v w at refl ∙ k.no_ticket t far;
        fits = each_set (Fits (owner (fixed start)) (entries start) (fixed start) (entries start ++ k.since) k.serving) _ s.views id w
            (record { places = ((([], sym home.2 ∙ sym (append-nil (entries home.0)), tt), mine.1, mine.2), tt); turn = λ _. (ap (λ t. Some t) (sym same), (_, refl, home.2)) })
            (λ j u ne there h. h) k.fits;
        slot = inr (ap (λ h. set h 0 none) home.1, some_here (λ (u : Knows E F). u.served ≡ true) s.views id v w at refl);
        owned = k.owned;
        longest = some_here (λ (u : Knows E F). SomeOf (λ p. p.seen ≡ entries start ++ k.since) u.own) s.views id v w at (inl home.2);
      }

  -- a seat that waits with the served ticket finds the value at home
  at_home : (s : State (Option M) (Knows E F)) (k : Rule s) (id ticket : ℕ) (v : Knows E F) → get_elem? s.views id ≡ some v → v.ticket ≡ Some ticket → v.served ≡ false → k.serving ≡ ticket → IsOut s.homes s.views
      → AtHome entries fixed (fixed start) (entries start ++ k.since) s.homes s.views
  at_home s k id ticket v at has rests same away =
      let u = away.1.1 in
      let there = away.1.2 in
      let theirs = ((k.fits away.1.0 u there).turn away.1.3).0 in
      let one = one_holder entries fixed owner start seats s k id away.1.0 ticket v u at there has (theirs ∙ ap (λ t. Some t) same) in
      let equal : some u ≡ some v = sym there ∙ ap (get_elem? s.views) one ∙ at in
      absurd (true≢false (sym away.1.3 ∙ ap (λ (x : Knows E F). x.served) (some-injective u v equal) ∙ rests))

  pub looks : (slots id number l ticket : ℕ) (seen o : List E) (f : Option F)
      → Allows Rule slots id (waits number l seen ticket o f, []) 1 (λ n. n) (looked entries fixed owner (step slots 1 0 0 none) (waits number l seen ticket o f, []))
  looks slots id number l ticket seen o f s k sized at fits =
      let v = waits number l seen ticket o f in
      let mine = (k.fits id v at).places.0 in
      let own : k.serving ≡ ticket → AtHome entries fixed (fixed start) (entries start ++ k.since) s.homes s.views
      → Owes Rule s id (v, []) 1 (λ n. n) (looked entries fixed owner (step slots 1 0 0 none) (v, [])) (k.next ∷ k.serving ∷ [])
      = λ same home. (
        in_turn (entries home.0) v,
        takes 0 (Some home.0),
        ap (λ h. get_elem? h 0) home.1,
        out s k id number l ticket seen o f at same home,
        λ t e. (
          λ found. (home.0, refl, mine.2 ∙ ap (λ x. Some x) (sym home.3), (subst₂ (λ x h. Saw (owner x) h (place number l seen)) (sym home.3) (sym home.2) mine.0, tt)),
          λ other. absurd (other (same ∙ some_same ticket t e)),
        ),
      ) in
      at_words Rule s id (v, []) 1 (λ n. n) (looked entries fixed owner (step slots 1 0 0 none) (v, [])) (k.next ∷ k.serving ∷ []) k.words
      (⊎_elim
      (λ same. own same (⊎_elim (λ home. home) (λ away. at_home s k id ticket v at refl refl same away) k.slot))
      (λ other. (
        v,
        keeps,
        tt,
        subst Rule (λ i. record { words = k.words i; homes = s.homes; views = sym (set_again s.views id v at) i }) k,
        λ t e. ((λ found. absurd (other (found ∙ sym (some_same ticket t e)))), λ _. refl),
      ))
      (which k.serving ticket))

  -- the same for a seat that is known to wait
  pub looks_from : (slots id number l ticket : ℕ) (seen o : List E) (f : Option F) (me : Me (Option M) (Knows E F)) → me ≡ (waits number l seen ticket o f, [])
      → Allows Rule slots id me 1 (λ n. n) (looked entries fixed owner (step slots 1 0 0 none) me)
  looks_from slots id number l ticket seen o f me e = subst (λ m. Allows Rule slots id m 1 (λ n. n) (looked entries fixed owner (step slots 1 0 0 none) m)) (sym e) (looks slots id number l ticket seen o f)
