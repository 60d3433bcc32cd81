-- A book and its seats: between two turns, in a turn, at the start and at the end.
use Rattle.std.specs.Prelude.{◌≡◌, ◌≢◌, ℕ, ◌^◌, ◌<◌, ◌==◌, true, false, List, [], ◌∷◌, ◌++◌, map, length, drop, filter, All, Contains, Some, None}
use Rattle.turn_book.specs.declared.view.Place.{Place}
use Rattle.turn_book.specs.declared.seat.Seat.{Seat}
use Rattle.turn_book.specs.declared.seat.SeatList.{SeatList}
use Rattle.turn_book.specs.declared.book.Book.{Book}
use Rattle.turn_book.specs.Views.{Each, BeginsWith, place, knows}
use Rattle.turn_book.specs.Seats.{seats_in}

-- the value that the book was made with
abbrev pub opened : {M E F : Type 0} → Book M E F → M
opened b = b.table.shared.key.0.value

-- how many seats the book was made with
abbrev pub seats_of : {M E F : Type 0} → Book M E F → ℕ
seats_of b = b.table.shared.key.1

abbrev pub first_seen : {E : Type 0} → List (Place E) → List E
first_seen [] = []
first_seen (p ∷ ps) = p.seen

-- the history that the seat has seen
abbrev pub seen : {M E F : Type 0} → Seat M E F → List E
seen s = first_seen s.token.me.0.own

abbrev pub place_of : {M E F : Type 0} → Seat M E F → Place E
place_of s = place s.number s.left (seen s)

abbrev pub IsAtTable : {M E F : Type 0} → Book M E F → Seat M E F → Type 0
IsAtTable b s = (s.token.table_id ≡ b.table.shared.table_id) × (b.table.shared.table_id.words ≡ 2) × (b.table.shared.table_id.slots ≡ 1)

-- A seat of this book, between two turns. What it has seen begins with the opening
abbrev pub IsSeatOf : {M E F : Type 0} → (M → List E) → (M → F) → Book M E F → Seat M E F → Type 0
IsSeatOf entries fixed b s =
    IsAtTable b s × (s.token.me ≡ (knows (place_of s ∷ []) None false (entries (opened b)) (Some (fixed (opened b))), [])) × BeginsWith (seen s) (entries (opened b))

-- A seat of this book in its turn: it has seen all, and the value is out with it
abbrev pub IsInTurn : {M E F : Type 0} → (M → List E) → (M → F) → Book M E F → Seat M E F → Type 0
IsInTurn entries fixed b s =
    IsAtTable b s × ((ticket : ℕ) × (s.token.me ≡ (knows (place_of s ∷ []) (Some ticket) true (entries (opened b)) (Some (fixed (opened b))), (0, None) ∷ [])))
    × BeginsWith (seen s) (entries (opened b))

-- who owns an entry of the book
abbrev pub owner_in : {M E F : Type 0} → (M → F) → (F → E → ℕ) → Book M E F → E → ℕ
owner_in fixed owner b = owner (fixed (opened b))

-- Of a history, the entries behind the opening that the seat of this number owns
abbrev pub own_entries : {M E F : Type 0} → (M → List E) → (M → F) → (F → E → ℕ) → Book M E F → ℕ → List E → List E
own_entries entries fixed owner b number history = filter (λ e. owner_in fixed owner b e == number) (drop (length (entries (opened b))) history)

-- the seat's own entries behind the opening
abbrev pub mine : {M E F : Type 0} → (M → List E) → (M → F) → (F → E → ℕ) → Book M E F → Seat M E F → List E
mine entries fixed owner b s = own_entries entries fixed owner b s.number (seen s)

-- The value begins with what the seat had seen, and no later entry is the seat's own
abbrev pub Continues : {M E F : Type 0} → (M → List E) → (M → F) → (F → E → ℕ) → Book M E F → Seat M E F → M → Type 0
Continues {M} {E} {F} entries fixed owner b s value =
    (between : List E) × (entries value ≡ seen s ++ between) × Each (λ e. owner_in fixed owner b e ≢ s.number) between

-- The value begins with what the seat saw at the start of its turn, and each entry that it gained is the seat's own
abbrev pub Gains : {M E F : Type 0} → (M → List E) → (M → F) → (F → E → ℕ) → Seat M E F → M → Type 0
Gains {M} {E} {F} entries fixed owner s value =
    (gained : List E) × (entries value ≡ seen s ++ gained) × Each (λ e. owner (fixed value) e ≡ s.number) gained

-- A seat that has taken no turn yet
abbrev pub IsFresh : {M E F : Type 0} → (M → List E) → (M → F) → Book M E F → Seat M E F → Type 0
IsFresh entries fixed b s = IsSeatOf entries fixed b s × (s.left ≡ 2 ^ 32) × (seen s ≡ entries (opened b))

-- All seats of the book, at least one, each between two turns
abbrev pub AreAllOf : {M E F : Type 0} → (M → List E) → (M → F) → Book M E F → SeatList M E F → Type 0
AreAllOf entries fixed b list = (0 < length (seats_in list)) × (length (seats_in list) ≡ seats_of b) × All (IsSeatOf entries fixed b) (seats_in list)

-- Behind the opening each seat's entries in the history are just its own ones, in order
abbrev pub HasOwn : {M E F : Type 0} → (M → List E) → (M → F) → (F → E → ℕ) → Book M E F → List E → Seat M E F → Type 0
HasOwn entries fixed owner b history s = own_entries entries fixed owner b s.number history ≡ mine entries fixed owner b s

-- Behind the opening each entry is owned by one of the seats
abbrev pub OwnedBySeats : {M E F : Type 0} → (M → List E) → (M → F) → (F → E → ℕ) → Book M E F → SeatList M E F → List E → Type 0
OwnedBySeats entries fixed owner b list history = All (λ e. Contains (map (λ s. s.number) (seats_in list)) (owner_in fixed owner b e)) (drop (length (entries (opened b))) history)
