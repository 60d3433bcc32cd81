-- A phase's callers at work: an actor before its work, behind it, and what actors leave.
use Rattle.std.specs.Prelude.{◌≡◌, ℕ, ◌^◌, ◌<◌, ◌≤◌, Bool, true, false, List, [], ◌∷◌, map, length, All, Contains, Option, None, Some, IfSome, is_some, slice_index_or, Vec}
use Rattle.std.specs.Global.{Global}
use Rattle.std.specs.List.Sorted.{IsStrictlyIncreasing}
use Rattle.capture_files.specs.Record.{Frame}
use Rattle.flow_rules.specs.declared.limits.Limits.{Limits}
use Rattle.flow_calls.specs.declared.caller.Caller.{Caller}
use Rattle.flow_calls.specs.declared.entry.Entry.{Entry}
use Rattle.flow_calls.specs.Entries.{entries_by, numbers_by, parcels_of, passers_of}
use Rattle.replica.specs.Caught.{ReplicaView}
use Rattle.turn_book.specs.Views.{BeginsWith}
use Rattle.flow_port.specs.declared.port.FlowPort.{FlowPort}
use Rattle.flow_port.specs.declared.seat.PortSeat.{PortSeat}
use Rattle.flow_port.specs.Ports.{IsFreshAt, IsSeatAt, limits_of, mine, opening_of, seen, since, whose}
use Rattle.flow_port.specs.Standing.{Stands, StandsAt}
use Rattle.running_phase.specs.declared.actors.Actor.{Actor}
use Rattle.running_phase.specs.declared.actors.Plan.{Plan}
use Rattle.running_phase.specs.declared.actors.Role.{Role}
use Rattle.running_phase.specs.declared.actors.Role.TheVariants as roles
use Rattle.running_phase.specs.declared.copies.FrameCopy.{FrameCopy}
use Rattle.running_phase.specs.declared.order.SentBy.{SentBy}
use Rattle.running_phase.specs.declared.worker.Worker.{Worker}
use Rattle.running_phase.specs.Copies.{Finds, numbers, parcels, record_of}
use Rattle.running_phase.specs.Roster.{IsTaker}
use Rattle.running_phase.specs.Sends.{AreKept, sent_by}
use Rattle.running_phase.specs.Shares.{Did}

-- What holds of a plan over the port's opening
pub record IsPlan (port : FlowPort) (p : Plan) : Type 0 where
  pub one : 1 ≤ p.workers
  pub few : p.workers ≤ 16
  pub calls : length p.phase.shell.now ≤ 2 ^ 32
  pub queues : length p.phase.agents.now ≡ 8
  pub asked : All (λ calls. length calls ≤ 2 ^ 32) p.phase.agents.now
  pub frames : length p.phase.frames.now ≤ 2 ^ 32
  pub rising : IsStrictlyIncreasing (numbers p.phase.frames.now)
  pub behind : (who : ℕ) → All (λ n. All (λ c. n < c.number) p.phase.frames.now) (numbers_by who (opening_of port))

-- A worker that has not begun
pub record IsFreshWorker (port : FlowPort) (p : Plan) (who : ℕ) (w : Worker) : Type 0 where
  pub taker : IsTaker p.workers who
  pub stands : Stands (limits_of port) (opening_of port) w.replica
  pub keeps : is_some w.kept ≡ p.phase.keeps
  pub empty : IfSome w.kept (λ copies. copies.items ≡ [])

abbrev pub IsFreshRole : FlowPort → Plan → ℕ → Role → Type 0
IsFreshRole port p who roles.Asker = who ≤ 8
IsFreshRole port p who (roles.Passer w) = IsFreshWorker port p who w

-- An actor that has not begun
pub record IsReady (port : FlowPort) (p : Plan) (a : Actor) : Type 0 where
  pub seat : IsFreshAt port a.seat
  pub role : IsFreshRole port p (whose a.seat).0 a.role

-- A worker behind its work
pub record IsDoneWorker (port : FlowPort) (p : Plan) (s : PortSeat) (w : Worker) : Type 0 where
  pub taker : IsTaker p.workers (whose s).0
  pub stands : StandsAt port s w.replica
  pub keeps : is_some w.kept ≡ p.phase.keeps

-- it has all that it sent as far as its seat has seen, where it keeps what it sends
abbrev pub HasKept : FlowPort → Plan → PortSeat → Worker → Type 0
HasKept port p s w = (look : ℕ → Option Frame) → Finds look p.phase.frames.now
    → AreKept (sent_by (whose s).0 (limits_of port) look (opening_of port) (since port (seen s))) w.kept

abbrev pub IsDoneRole : FlowPort → Plan → PortSeat → Bool → Role → Type 0
IsDoneRole port p s failed roles.Asker = (whose s).0 ≤ 8
IsDoneRole port p s failed (roles.Passer w) = IsDoneWorker port p s w × (failed ≡ false → HasKept port p s w)

-- the seat's caller did all that it has to do
abbrev pub DidItsPart : FlowPort → Plan → PortSeat → Type 0
DidItsPart port p s = Did p.workers p.phase.shell.now p.phase.agents.now (parcels p.phase.frames.now) (whose s).0 (mine port s)

-- An actor behind its work
pub record IsDone (port : FlowPort) (p : Plan) (a : Actor) : Type 0 where
  pub seat : IsSeatAt port a.seat
  pub role : IsDoneRole port p a.seat a.failed a.role
  pub did : a.failed ≡ false → DidItsPart port p a.seat

abbrev pub is_passer : Role → Bool
is_passer roles.Asker = false
is_passer (roles.Passer w) = true

abbrev pub is_worker : Actor → Bool
is_worker a = is_passer a.role

-- each of them is what it was
abbrev pub AreOfKind : List Actor → List Actor → Type 0
AreOfKind old new = (i : ℕ) (d : Actor) → i < length old → is_worker (slice_index_or new i d) ≡ is_worker (slice_index_or old i d)

-- ---- what actors leave

abbrev pub replica_of : Role → List ReplicaView
replica_of roles.Asker = []
replica_of (roles.Passer w) = w.replica ∷ []

abbrev pub sent_as : Caller → Option (Vec FrameCopy Global) → List SentBy
sent_as caller None = []
sent_as caller (Some copies) = record { caller = caller; copies = copies } ∷ []

abbrev pub list_of : Caller → Role → List SentBy
list_of caller roles.Asker = []
list_of caller (roles.Passer w) = sent_as caller w.kept

-- The history is one at which the port may be closed: it begins with what each seat has seen, and behind the opening each
-- caller has no further entry
pub record IsClosing (port : FlowPort) (seats : List PortSeat) (history : List Entry) : Type 0 where
  pub begins : All (λ s. BeginsWith history (seen s)) seats
  pub own : All (λ s. entries_by (whose s).0 (since port history) ≡ mine port s) seats

-- All that these seats' callers sent in that history
abbrev pub IsAllSent : FlowPort → (ℕ → Option Frame) → List Entry → SentBy → Type 0
IsAllSent port look history l = map record_of l.copies.items ≡ sent_by l.caller.0 (limits_of port) look (opening_of port) (since port history)

-- What actors left, with their seats: whatever the history in which the port is closed, the replicas stand in it, and the lists have
-- all that was sent
pub record AreLeft (port : FlowPort) (p : Plan) (failed : Bool) (seats : List PortSeat) (replicas : List ReplicaView) (lists : List SentBy) : Type 0 where
  pub at : All (IsSeatAt port) seats
  pub did : failed ≡ false → All (DidItsPart port p) seats
  pub stand : (history : List Entry) → IsClosing port seats history → All (λ r. Stands (limits_of port) history r) replicas
  pub sent : failed ≡ false → (look : ℕ → Option Frame) → Finds look p.phase.frames.now → (history : List Entry) → IsClosing port seats history
      → All (IsAllSent port look history) lists
  pub listed : p.phase.keeps ≡ true → All (λ s. 9 ≤ (whose s).0 → Contains (map (λ l. l.caller.0) lists) (whose s).0) seats

-- For each worker of a middle there is a list with all that it sent, and each frame that passed is found
pub record HasLists (limits : Limits) (look : ℕ → Option Frame) (before middle : List Entry) (lists : List SentBy) : Type 0 where
  pub each : All (Contains (map (λ l. l.caller.0) lists)) (passers_of middle)
  pub found : All (λ p. is_some (look p.number) ≡ true) (parcels_of middle)
  pub sent : All (λ l. map record_of l.copies.items ≡ sent_by l.caller.0 limits look before middle) lists
