-- What a seat knows, and what is counted over the seats.
use Rattle.std.specs.Prelude.{◌≡◌, ◌⊎◌, ℕ, zero, suc, ◌+◌, ◌^◌, Bool, cond, ◌==◌, List, [], ◌∷◌, ◌++◌, Option, Some, None}
use Rattle.turn_book.specs.declared.view.Place.{Place}
use Rattle.turn_book.specs.declared.view.Knows.{Knows}

-- P holds of each element
abbrev pub Each : {X : Type 0} → (X → Type 0) → List X → Type 0
Each P [] = Unit {0}
Each P (x ∷ xs) = P x × Each P xs

-- P holds of some element
abbrev pub SomeOf : {X : Type 0} → (X → Type 0) → List X → Type 0
SomeOf P [] = ⊥
SomeOf P (x ∷ xs) = P x ⊎ SomeOf P xs

-- the first list begins with the second
abbrev pub BeginsWith : {X : Type 0} → List X → List X → Type 0
BeginsWith {X} xs ys = (rest : List X) × (xs ≡ ys ++ rest)

abbrev pub place : {E : Type 0} → ℕ → ℕ → List E → Place E
place number left seen = record { number = number; left = left; seen = seen }

abbrev pub knows : {E F : Type 0} → List (Place E) → Option ℕ → Bool → List E → Option F → Knows E F
knows own ticket served opening fixed = record { own = own; ticket = ticket; served = served; opening = opening; fixed = fixed }

-- `count` places from a number on, each with all its turns
abbrev pub numbered : {E : Type 0} → List E → ℕ → ℕ → List (Place E)
numbered seen number zero = []
numbered seen number (suc count) = place number (2 ^ 32) seen ∷ numbered seen (number + 1) count

abbrev pub one_if : Bool → ℕ
one_if b = cond b 1 0

-- how often the number stands among the places
abbrev pub times : {E : Type 0} → ℕ → List (Place E) → ℕ
times number [] = 0
times number (p ∷ ps) = one_if (p.number == number) + times number ps

-- the turns that the places have left
abbrev pub turns : {E : Type 0} → List (Place E) → ℕ
turns [] = 0
turns (p ∷ ps) = p.left + turns ps

-- 1 where it is that ticket
abbrev pub is_ticket : ℕ → Option ℕ → ℕ
is_ticket ticket None = 0
is_ticket ticket (Some t) = one_if (t == ticket)

-- f of each, added up
abbrev pub total : {V : Type 0} → (V → ℕ) → List V → ℕ
total f [] = 0
total f (v ∷ vs) = f v + total f vs
