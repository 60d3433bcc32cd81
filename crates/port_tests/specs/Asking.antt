-- Seats that can ask, and a port of two callers.
use Rattle.std.specs.Prelude.{◌≡◌, ℕ, ◌^◌, ◌≤◌, length}
use Rattle.flow_port.specs.declared.port.FlowPort.{FlowPort}
use Rattle.flow_port.specs.declared.seat.PortSeat.{PortSeat}
use Rattle.flow_port.specs.declared.seat.PortSeats.{PortSeats}
use Rattle.flow_port.specs.Ports.{IsListOf, IsSeatAt, callers_of, limit_of, seats_in, turns, whose}

-- A seat of the shell or of an agent, with so many turns at least
pub record CanAsk (port : FlowPort) (count : ℕ) (s : PortSeat) : Type 0 where
  pub seat : IsSeatAt port s
  pub enough : count ≤ turns s
  pub asks : (whose s).0 ≤ 8

-- a new one
abbrev pub IsReady : FlowPort → PortSeat → Type 0
IsReady port s = CanAsk port (2 ^ 32) s

-- Both seats are the port's, which has no other, and the list has room for just these
pub record IsPair (port : FlowPort) (list : PortSeats) (one other : PortSeat) : Type 0 where
  pub first : IsSeatAt port one
  pub second : IsSeatAt port other
  pub callers : length (callers_of port) ≡ 2
  pub room : IsListOf port list × (length (seats_in list) ≡ 0) × (limit_of list ≡ 2)
