-- The members of a crew, before their work and behind it.
use Rattle.std.specs.Prelude.{◌≡◌, ℕ, ◌^◌, ◌≤◌, [], length}
use Rattle.flow_rules.specs.declared.limits.Limits.{Limits}
use Rattle.flow_calls.specs.Entries.{numbers_by}
use Rattle.flow_port.specs.declared.port.FlowPort.{FlowPort}
use Rattle.flow_port.specs.Ports.{IsFreshAt, IsSeatAt, limits_of, opening_of, whose}
use Rattle.flow_port.specs.Standing.{Stands}
use Rattle.test_crews.specs.declared.plan.Plan.{Plan}
use Rattle.test_crews.specs.declared.passing.Passing.{Passing}
use Rattle.test_crews.specs.declared.seating.Member.{Member}
use Rattle.test_crews.specs.declared.seating.Role.{Role}
use Rattle.test_crews.specs.declared.seating.Role.TheVariants as roles

-- What holds of a plan
pub record IsPlan (p : Plan) : Type 0 where
  pub some_worker : 1 ≤ p.workers
  pub workers : p.workers ≤ 16
  pub some_frame : 1 ≤ p.burst
  pub frames : p.burst ≤ 32
  pub calls : length p.calls.now ≤ 2 ^ 32

-- A worker that has not begun
pub record IsFreshPassing (limits : Limits) (who : ℕ) (p : Passing) : Type 0 where
  pub worker : (9 ≤ who) × (who ≤ 24)
  pub step : 1 ≤ p.share.step
  pub end : p.share.end ≤ 2 ^ 32
  pub stands : Stands limits [] p.replica

abbrev pub IsFreshRole : Limits → ℕ → Role → Type 0
IsFreshRole limits who roles.Asker = who ≤ 8
IsFreshRole limits who (roles.Passer p) = IsFreshPassing limits who p

-- A member that has not begun, at a port where no frame passed yet
pub record IsReady (port : FlowPort) (m : Member) : Type 0 where
  pub seat : IsFreshAt port m.seat
  pub role : IsFreshRole (limits_of port) (whose m.seat).0 m.role
  pub frames : numbers_by (whose m.seat).0 (opening_of port) ≡ []

-- One behind its work
abbrev pub IsDone : FlowPort → Member → Type 0
IsDone port m = IsSeatAt port m.seat
