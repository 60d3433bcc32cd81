-- The rule of the table: two words, one slot, and what the seats know.
use Rattle.std.specs.Prelude.{◌≡◌, ◌≢◌, ◌⊎◌, ℕ, ◌+◌, ◌*◌, ◌^◌, ◌<◌, ◌≤◌, true, false, List, [], ◌∷◌, ◌++◌, length, Option, Some, None}
use mathlib.Core.Option.{some, none}
use mathlib.Core.Option as maybe
use lib.ListN.{get_elem?}
use Rattle.atomic_table.specs.Table.{State}
use Rattle.turn_book.specs.declared.view.Place.{Place}
use Rattle.turn_book.specs.declared.view.Knows.{Knows}
use Rattle.turn_book.specs.Views.{Each, SomeOf, knows, numbered, times, turns, is_ticket, total}

-- what the first seat knows: it carries the places of all seats, which have seen the opening
abbrev pub beginning : {E F : Type 0} → List E → F → ℕ → Knows E F
beginning opening part seats = knows (numbered opening 0 seats) None false opening (Some part)

-- The history begins with what the place has seen, and no later entry is its own
abbrev pub Saw : {E : Type 0} → (E → ℕ) → List E → Place E → Type 0
Saw {E} owner history p = (more : List E) × (history ≡ p.seen ++ more) × Each (λ e. owner e ≢ p.number) more

-- A seat in its turn has the ticket that is served, and has seen all
abbrev pub HasTurn : {E F : Type 0} → List E → ℕ → Knows E F → Type 0
HasTurn {E} history serving v = (v.ticket ≡ Some serving) × ((p : Place E) × (v.own ≡ p ∷ []) × (p.seen ≡ history))

pub record Fits {E F : Type 0} (owner : E → ℕ) (opening : List E) (part : F) (history : List E) (serving : ℕ) (v : Knows E F) : Type 0 where
  pub places : Each (λ p. Saw owner history p × (v.opening ≡ opening) × (v.fixed ≡ Some part)) v.own
  pub turn : v.served ≡ true → HasTurn history serving v

-- P holds of what some seat knows
abbrev pub SomeView : {V : Type 0} → (V → Type 0) → List V → Type 0
SomeView {V} P views = (seat : ℕ) × (v : V) × (get_elem? views seat ≡ some v) × P v

abbrev pub EachView : {V : Type 0} → (V → Type 0) → List V → Type 0
EachView {V} P views = (seat : ℕ) (v : V) → get_elem? views seat ≡ some v → P v

-- The slot is at home with the value, or out with the seat that is in its turn
abbrev pub AtHome : {M E F : Type 0} → (M → List E) → (M → F) → F → List E → List (maybe.Option (Option M)) → List (Knows E F) → Type 0
AtHome {M} {E} {F} entries fixed part history homes views =
    (value : M) × (homes ≡ some (Some value) ∷ []) × (entries value ≡ history) × (fixed value ≡ part) × EachView (λ v. v.served ≡ false) views

abbrev pub IsOut : {M E F : Type 0} → List (maybe.Option (Option M)) → List (Knows E F) → Type 0
IsOut homes views = (homes ≡ none ∷ []) × SomeView (λ v. v.served ≡ true) views

module _ {M E F : Type 0} (entries : M → List E) (fixed : M → F) (owner : F → E → ℕ) (start : M) (seats : ℕ) where
  pub record Kept (s : State (Option M) (Knows E F)) : Type 0 where
    -- the entries behind the opening
    pub since : List E
    pub next : ℕ
    pub serving : ℕ
    pub words : s.words ≡ next ∷ serving ∷ []
    pub order : serving ≤ next
    pub few : seats ≤ 25
    -- each ticket took a turn
    pub paid : next + total (λ v. turns v.own) s.views ≡ seats * 2 ^ 32
    -- each number below `seats` is carried once, and no other is
    pub carried : (number : ℕ) → number < seats → total (λ v. times number v.own) s.views ≡ 1
    pub no_other : (number : ℕ) → seats ≤ number → total (λ v. times number v.own) s.views ≡ 0
    pub places : total (λ v. length v.own) s.views ≡ seats
    -- each ticket from the one that is served on is some seat's and only its, and there is no other
    pub waited : (ticket : ℕ) → serving ≤ ticket → ticket < next → total (λ v. is_ticket ticket v.ticket) s.views ≡ 1
    pub no_ticket : (ticket : ℕ) → (ticket < serving) ⊎ (next ≤ ticket) → total (λ v. is_ticket ticket v.ticket) s.views ≡ 0
    pub fits : EachView (Fits (owner (fixed start)) (entries start) (fixed start) (entries start ++ since) serving) s.views
    pub slot : AtHome entries fixed (fixed start) (entries start ++ since) s.homes s.views ⊎ IsOut s.homes s.views
    pub owned : Each (λ e. owner (fixed start) e < seats) since
    -- some place has seen the whole history
    pub longest : SomeView (λ v. SomeOf (λ p. p.seen ≡ entries start ++ since) v.own) s.views
