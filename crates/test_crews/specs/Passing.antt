-- A worker that may let frames pass.
use Rattle.std.specs.Prelude.{◌+◌, ◌<◌, ◌≤◌, All}
use Rattle.flow_calls.specs.Entries.{numbers_by}
use Rattle.flow_port.specs.declared.port.FlowPort.{FlowPort}
use Rattle.flow_port.specs.declared.seat.PortSeat.{PortSeat}
use Rattle.flow_port.specs.Ports.{IsSeatAt, seen, turns, whose}
use Rattle.flow_port.specs.Standing.{StandsAt}
use Rattle.test_crews.specs.declared.passing.Passing.{Passing}

-- It has a turn for each number that its share may still have, and no frame of its caller has such a number
pub record MayPass (port : FlowPort) (s : PortSeat) (p : Passing) : Type 0 where
  pub seat : IsSeatAt port s
  pub worker : (9 ≤ (whose s).0) × ((whose s).0 ≤ 24)
  pub turns : p.share.end ≤ turns s + p.share.next
  pub step : 1 ≤ p.share.step
  pub below : All (λ n. n < p.share.next) (numbers_by (whose s).0 (seen s))
  pub stands : StandsAt port s p.replica
