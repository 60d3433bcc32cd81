-- A port and its seats, and what each caller has seen and entered.
use Rattle.std.specs.Prelude.{◌≡◌, ◌≢◌, ℕ, ◌^◌, ◌<◌, List, [], ◌++◌, map, length, drop, All, AllPairs, slice_index_or}
use Rattle.flow_rules.specs.declared.limits.Limits.{Limits}
use Rattle.flow_calls.specs.declared.caller.Caller.{Caller}
use Rattle.flow_calls.specs.declared.entry.Entry.{Entry}
use Rattle.flow_calls.specs.Entries.{entries_by}
use Rattle.turn_book.specs.declared.seat.Seat.{Seat}
use Rattle.turn_book.specs.Seats as book_seats
use Rattle.turn_book.specs.Books as books
use Rattle.flow_port.specs.declared.held.Held.{Held}
use Rattle.flow_port.specs.declared.port.FlowPort.{FlowPort}
use Rattle.flow_port.specs.declared.seat.PortSeat.{PortSeat}
use Rattle.flow_port.specs.declared.seat.PortSeats.{PortSeats}
use Rattle.flow_port.specs.Owners.{place_of}
use Rattle.flow_port.specs.Holding.{history_in, fixed_in}

-- the history, the limits and the callers that the port was made with
abbrev pub opening_of : FlowPort → List Entry
opening_of port = history_in (books.opened port.book)

abbrev pub limits_of : FlowPort → Limits
limits_of port = (books.opened port.book).adapter.limits

abbrev pub callers_of : FlowPort → List Caller
callers_of port = (books.opened port.book).callers.items

-- of a history, the entries behind the port's opening
abbrev pub since : FlowPort → List Entry → List Entry
since port history = drop (length (opening_of port)) history

-- whose seat it is
abbrev pub whose : PortSeat → Caller
whose s = s.caller

-- the history that the seat has seen
abbrev pub seen : PortSeat → List Entry
seen s = books.seen s.seat

-- the turns that the seat has left
abbrev pub turns : PortSeat → ℕ
turns s = s.seat.left

-- the seat's own entries behind the opening, in order
unfoldable pub mine : FlowPort → PortSeat → List Entry
mine port s = entries_by (whose s).0 (since port (seen s))

-- behind what was seen came entries of others, and then those that were gained
abbrev pub Grew : List Entry → List Entry → List Entry → Type 0
Grew before after gained = (between : List Entry) × (after ≡ (before ++ between) ++ gained)

-- A seat of this port, between two turns
pub record IsSeatAt (port : FlowPort) (s : PortSeat) : Type 0 where
  pub seat : books.IsSeatOf history_in fixed_in port.book s.seat
  pub place : place_of (whose s).0 (callers_of port) ≡ s.seat.number
  pub known : s.seat.number < length (callers_of port)
  pub full : books.seats_of port.book ≡ length (callers_of port)

-- A seat that took no turn yet
abbrev pub IsFreshAt : FlowPort → PortSeat → Type 0
IsFreshAt port s = IsSeatAt port s × (turns s ≡ 2 ^ 32) × (seen s ≡ opening_of port) × (mine port s ≡ [])

abbrev pub no_caller : Caller
no_caller = record { 0 = 0 }

-- the seat of the book, as the port's
abbrev pub with_caller : List Caller → Seat Held Entry (Limits × List Caller) → PortSeat
with_caller callers s = record { seat = s; caller = slice_index_or callers s.number no_caller }

abbrev pub seats_in : PortSeats → List PortSeat
seats_in list = map (with_caller list.callers.items) (book_seats.seats_in list.seats)

-- how many seats the list may hold
abbrev pub limit_of : PortSeats → ℕ
limit_of list = book_seats.limit_of list.seats

-- A list for seats of this port
abbrev pub IsListOf : FlowPort → PortSeats → Type 0
IsListOf port list = list.callers.items ≡ callers_of port

-- No two of the callers are one
abbrev pub AreDifferent : List Caller → Type 0
AreDifferent callers = AllPairs (λ (c d : Caller). c.0 ≢ d.0) callers

-- All seats of the port, each between two turns
abbrev pub AreAllAt : FlowPort → PortSeats → Type 0
AreAllAt port list = (0 < length (seats_in list)) × (length (seats_in list) ≡ length (callers_of port)) × All (IsSeatAt port) (seats_in list)
