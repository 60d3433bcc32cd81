-- What each step tells its caller, and how a seat is cut in two and put together.
use Rattle.std.specs.Prelude.{◌≡◌, ◌≢◌, ℕ, ◌-◌, true, false, List, [], ◌∷◌, ◌++◌, map, Option, Some, None}
use Rattle.atomic_table.specs.Table.{Me, Step}
use Rattle.turn_book.specs.declared.view.Place.{Place}
use Rattle.turn_book.specs.declared.view.Knows.{Knows}
use Rattle.turn_book.specs.Views.{Each, place, knows}
use Rattle.turn_book.specs.Rule.{Saw}

abbrev pub lowered : {E : Type 0} → List (Place E) → List (Place E)
lowered ps = map (λ p. place p.number (p.left - 1) p.seen) ps

abbrev pub seen_all : {E : Type 0} → List E → List (Place E) → List (Place E)
seen_all history ps = map (λ p. place p.number p.left history) ps

abbrev pub with_ticket : {E F : Type 0} → ℕ → Knows E F → Knows E F
with_ticket ticket v = knows (lowered v.own) (Some ticket) v.served v.opening v.fixed

abbrev pub in_turn : {E F : Type 0} → List E → Knows E F → Knows E F
in_turn history v = knows (seen_all history v.own) v.ticket true v.opening v.fixed

abbrev pub at_rest : {E F : Type 0} → List E → Knows E F → Knows E F
at_rest history v = knows (seen_all history v.own) None false v.opening v.fixed

-- The ticket is the number that was found, and cost a turn
abbrev pub drew : {M E F : Type 0} → Step (Option M) → Me (Option M) (Knows E F) → ℕ → Me (Option M) (Knows E F) → Type 0
drew st before found after = after ≡ (with_ticket found before.0, before.1)

-- The value came out. It begins with what was seen, and no later entry is the seat's own
abbrev pub Takes : {M E F : Type 0} → (M → List E) → (M → F) → (F → E → ℕ) → Knows E F → Me (Option M) (Knows E F) → Type 0
Takes {M} entries fixed owner v after =
    (value : M) × (after ≡ (in_turn (entries value) v, (0, Some value) ∷ [])) × (v.fixed ≡ Some (fixed value)) × Each (Saw (owner (fixed value)) (entries value)) v.own

-- Where the ticket is served the value comes out, and else nothing changes
abbrev pub looked : {M E F : Type 0} → (M → List E) → (M → F) → (F → E → ℕ) → Step (Option M) → Me (Option M) (Knows E F) → ℕ → Me (Option M) (Knows E F) → Type 0
looked entries fixed owner st before found after =
    (ticket : ℕ) → before.0.ticket ≡ Some ticket → (found ≡ ticket → Takes entries fixed owner before.0 after) × (found ≢ ticket → after ≡ before)

abbrev pub entries_in : {M E : Type 0} → (M → List E) → Option M → List E
entries_in entries None = []
entries_in entries (Some value) = entries value

-- the entries of the value that is held
abbrev pub held : {M E : Type 0} → (M → List E) → List (ℕ × Option M) → List E
held entries [] = []
held entries (slot ∷ slots) = entries_in entries slot.1

-- The seat is at rest again, and has seen the value that it gave back
abbrev pub left : {M E F : Type 0} → (M → List E) → Step (Option M) → Me (Option M) (Knows E F) → ℕ → Me (Option M) (Knows E F) → Type 0
left entries st before found after = after ≡ (at_rest (held entries before.1) before.0, [])

abbrev pub first_of : {E : Type 0} → List (Place E) → List (Place E)
first_of [] = []
first_of (p ∷ ps) = p ∷ []

abbrev pub others_of : {E : Type 0} → List (Place E) → List (Place E)
others_of [] = []
others_of (p ∷ ps) = ps

abbrev pub one_place : {E F : Type 0} → Knows E F → Knows E F
one_place v = knows (first_of v.own) None false v.opening v.fixed

abbrev pub other_places : {E F : Type 0} → Knows E F → Knows E F
other_places v = knows (others_of v.own) None false v.opening v.fixed

-- the places of both, the second seat's first
abbrev pub joined : {E F : Type 0} → Knows E F → Knows E F → Knows E F
joined v w = knows (w.own ++ v.own) None false v.opening v.fixed

abbrev pub spent : {E F : Type 0} → Knows E F
spent = knows [] None false [] None
