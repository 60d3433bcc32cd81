-- What contracts see of a seat and of a list of seats.
use Rattle.std.specs.Prelude.{ℕ, List, vec_capacity}
use Rattle.turn_book.specs.declared.seat.Seat.{Seat}
use Rattle.turn_book.specs.declared.seat.SeatList.{SeatList}

abbrev pub seats_in : {M E F : Type 0} → SeatList M E F → List (Seat M E F)
seats_in list = list.items.items

-- how many seats a list may hold
abbrev pub limit_of : {M E F : Type 0} → SeatList M E F → ℕ
limit_of list = vec_capacity list.items
