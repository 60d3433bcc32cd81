-- Seats of a new port can ask, and those of a port that are handed in.
use Rattle.std.proofs.Common.{◌≡◌, ℕ, ◌≤◌, ◌<◌, ◌++◌, List, length, map, get_or, All, sym, ap, ◌∙◌, subst, arith, length-append}
use Rattle.std.proofs.lemmas.List.{get_or-map, get_or_append_left, length-map}
use Rattle.flow_calls.specs.declared.caller.Caller.{Caller}
use Rattle.flow_port.specs.declared.port.FlowPort.{FlowPort}
use Rattle.flow_port.specs.declared.seat.PortSeat.{PortSeat}
use Rattle.flow_port.specs.declared.seat.PortSeats.{PortSeats}
use Rattle.flow_port.specs.Ports.{whose, callers_of, seats_in, AreAllAt, IsFreshAt, IsSeatAt}
use Rattle.port_tests.specs.Asking.{CanAsk, IsReady}

pub ready_new : (port : FlowPort) (list : List PortSeat) (callers : List Caller) → All (IsFreshAt port) list → map whose list ≡ callers → All (λ (c : Caller). c.0 ≤ 8) callers
    → All (IsReady port) list
ready_new port list callers fresh who asks k d lt =
    let f = fresh k d lt in
    let same : get_or callers k (whose d) ≡ whose (get_or list k d) = ap (λ l. get_or l k (whose d)) (sym who) ∙ get_or-map whose list k d (whose d) lt in
    let turns = f.1 in
    record {
      seat = f.0;
      enough = omega (arith, turns);
      asks = subst (λ (c : Caller). c.0 ≤ 8) same (asks k (whose d) (omega (arith, ap length who, length-map list whose)));
    }

pub known_new : (callers : List Caller) → All (λ (c : Caller). c.0 ≤ 8) callers → All (λ (c : Caller). c.0 ≤ 24) callers
known_new callers asks k d lt = let few = asks k d lt in omega arith

pub seats_of_ready : (port : FlowPort) (list : List PortSeat) → All (IsReady port) list → All (IsSeatAt port) list
seats_of_ready port list ready k d lt = (ready k d lt).seat

-- what holds of all of a list holds of those in front
pub front_all : (P : PortSeat → Type 0) (whole front last : List PortSeat) → whole ≡ front ++ last → All P whole → All P front
front_all P whole front last is all k d lt =
    subst P (ap (λ l. get_or l k d) is ∙ get_or_append_left front last d k lt) (all k d (omega (arith, lt, ap length is, length-append front last)))

-- all seats of a new port are in its list
pub all_handed_in : (port : FlowPort) (seats : PortSeats) (n : ℕ) → 0 < n → (length (seats_in seats) ≡ n) × (length (callers_of port) ≡ n) → All (IsReady port) (seats_in seats)
    → AreAllAt port seats
all_handed_in port seats n some count ready = (omega (arith, some, count.0), count.0 ∙ sym count.1, seats_of_ready port (seats_in seats) ready)
