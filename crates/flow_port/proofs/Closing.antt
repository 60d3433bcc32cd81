-- From what a book's close says to what the port's says.
use Rattle.std.proofs.Common.{◌≡◌, ℕ, zero, suc, ◌<◌, List, [], ◌∷◌, map, length, get_or, All, Contains, sym, ◌∙◌, subst, arith}
use Rattle.std.proofs.lemmas.List.{get_or-map, length-map}
use Rattle.std.proofs.lemmas.List.Elements.{All-head, All-tail, All-weaker}
use Rattle.flow_rules.specs.declared.limits.Limits.{Limits}
use Rattle.flow_calls.specs.declared.caller.Caller.{Caller}
use Rattle.flow_calls.specs.declared.entry.Entry.{Entry}
use Rattle.turn_book.specs.Views.{BeginsWith}
use Rattle.turn_book.specs.declared.seat.Seat.{Seat}
use Rattle.turn_book.specs.Seats as book_seats
use Rattle.turn_book.specs.Books as books
use Rattle.flow_port.specs.declared.held.Held.{Held}
use Rattle.flow_port.specs.declared.port.FlowPort.{FlowPort}
use Rattle.flow_port.specs.declared.seat.PortSeat.{PortSeat}
use Rattle.flow_port.specs.declared.seat.PortSeats.{PortSeats}
use Rattle.flow_calls.specs.Entries.{caller_of, entries_by}
use Rattle.flow_port.specs.Owners.{place_of}
use Rattle.flow_port.specs.Holding.{history_in, fixed_in, owner_by}
use Rattle.flow_port.specs.Ports.{callers_of, since, seen, mine, whose, with_caller, seats_in, IsSeatAt, AreAllAt}
use Rattle.flow_port.proofs.Owning.{same_place, place_known, own_is_by, mine_is_own}

abbrev BookSeat : Type 0
BookSeat = Seat Held Entry (Limits × List Caller)

module _ (port : FlowPort) (cs : List Caller) where
  at_seat : (P : PortSeat → Type 0) (bs : List BookSeat) (k : ℕ) (d : PortSeat) → k < length bs → P (with_caller cs (get_or bs k d.seat)) → P (get_or (map (with_caller cs) bs) k d)
  at_seat P bs k d lt p = subst P (sym (get_or-map (with_caller cs) bs k d.seat d lt)) p

  from_seat : (P : PortSeat → Type 0) (bs : List BookSeat) (k : ℕ) (d : BookSeat) → k < length bs → P (get_or (map (with_caller cs) bs) k (with_caller cs d)) → P (with_caller cs (get_or bs k d))
  from_seat P bs k d lt p = subst P (get_or-map (with_caller cs) bs k d (with_caller cs d) lt) p

  contains_from : (a : ℕ) (bs : List BookSeat) (k : ℕ) → All (IsSeatAt port) (map (with_caller cs) bs) → k < length (map (λ (s : BookSeat). s.number) bs)
      → get_or (map (λ (s : BookSeat). s.number) bs) k (place_of a (callers_of port)) ≡ place_of a (callers_of port) → Contains (map (λ (s : PortSeat). (whose s).0) (map (with_caller cs) bs)) a
  contains_from a [] k all lt e = absurd (omega arith)
  contains_from a (b ∷ bs) zero all lt e =
      let is = All-head (IsSeatAt port) (with_caller cs b) (map (with_caller cs) bs) all in
      let here : place_of a (callers_of port) ≡ place_of (with_caller cs b).caller.0 (callers_of port) = sym e ∙ sym is.place in
      (0, omega arith, sym (same_place (callers_of port) a (with_caller cs b).caller.0 (subst (λ n. n < length (callers_of port)) (sym is.place) is.known) here))
  contains_from a (b ∷ bs) (suc k) all lt e =
      let r = contains_from a bs k (All-tail (IsSeatAt port) (with_caller cs b) (map (with_caller cs) bs) all) (omega arith) e in
      let below = r.1 in
      (suc r.0, omega arith, r.2)

module _ (port : FlowPort) (list : PortSeats) (all : AreAllAt port list) where
  abbrev bs : List BookSeat
  bs = book_seats.seats_in list.seats

  length_bs : length (seats_in list) ≡ length bs
  length_bs = length-map bs (with_caller list.callers.items)

  is_at : (k : ℕ) (d : BookSeat) → k < length bs → IsSeatAt port (with_caller list.callers.items (get_or bs k d))
  is_at k d lt = from_seat port list.callers.items (IsSeatAt port) bs k d lt (all.2 k (with_caller list.callers.items d) (let e = length_bs in omega arith))

  all_full : (bs' : List PortSeat) → 0 < length bs' → All (IsSeatAt port) bs' → books.seats_of port.book ≡ length (callers_of port)
  all_full [] lt h = absurd (omega arith)
  all_full (b ∷ bs') lt h = (All-head (IsSeatAt port) b bs' h).full

  pub closes_requires : books.AreAllOf history_in fixed_in port.book list.seats
  closes_requires =
      let e = length_bs in
      let full = all_full (seats_in list) all.0 all.2 in
      let some = all.0 in
      let same = all.1 in
      (omega arith, omega arith, λ k d lt. (is_at k d lt).seat)

  pub closes_seen : (h : List Entry) → All (λ s. BeginsWith h (books.seen s)) bs → All (λ s. BeginsWith h (seen s)) (seats_in list)
  closes_seen h each k d lt = let e = length_bs in at_seat port list.callers.items (λ s. BeginsWith h (seen s)) bs k d (omega arith) (each k d.seat (omega arith))

  pub closes_own : (h : List Entry) → All (books.HasOwn history_in fixed_in owner_by port.book h) bs → All (λ s. entries_by (whose s).0 (since port h) ≡ mine port s) (seats_in list)
  closes_own h each k d lt =
      let e = length_bs in
      let within : k < length bs = omega arith in
      let s = get_or bs k d.seat in
      let p = with_caller list.callers.items s in
      let is = is_at k d.seat within in
      at_seat port list.callers.items (λ s. entries_by (whose s).0 (since port h) ≡ mine port s) bs k d within
      (sym (own_is_by port p h is) ∙ each k d.seat within ∙ mine_is_own port p is)

  pub closes_owned : (h : List Entry) → books.OwnedBySeats history_in fixed_in owner_by port.book list.seats h
      → All (λ e. Contains (map (λ s. (whose s).0) (seats_in list)) (caller_of e)) (since port h)
  closes_owned h owned = All-weaker (λ (e : Entry). Contains (map (λ (s : BookSeat). s.number) bs) (place_of (caller_of e) (callers_of port))) (λ e. Contains (map (λ s. (whose s).0) (seats_in list)) (caller_of e))
      (λ e c. contains_from port list.callers.items (caller_of e) bs c.0 all.2 c.1 c.2) (since port h) owned

  pub closes_all : ((number : ℕ) → number < books.seats_of port.book → Contains (map (λ (s : BookSeat). s.number) bs) number)
      → All (λ (c : Caller). Contains (map (λ s. (whose s).0) (seats_in list)) c.0) (callers_of port)
  closes_all each k d lt =
      let full = all_full (seats_in list) all.0 all.2 in
      let a = (get_or (callers_of port) k d).0 in
      let known = place_known (callers_of port) k d lt in
      let c = each (place_of a (callers_of port)) (omega arith) in
      contains_from port list.callers.items a bs c.0 all.2 c.1 c.2
