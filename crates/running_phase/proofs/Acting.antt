-- What an actor may rely on before its work, and what its work leaves.
use Rattle.std.proofs.Common.{◌≡◌, ℕ, ◌<◌, ◌≤◌, ◌^◌, Bool, Option, None, Some, Result, Ok, Err, IfOk, OnOk, List, [], ◌++◌, length, map, All, IfSome, is_some, Vec, append-nil, sym, ap, ◌∙◌, subst, arith}
use Rattle.std.specs.Global.{Global}
use Rattle.std.specs.List.Sorted.{IsStrictlyIncreasing}
use Rattle.std.proofs.lemmas.List.{drop_all}
use Rattle.capture_files.specs.Record.{Frame}
use Rattle.flow_calls.specs.declared.caller.Caller.{Caller}
use Rattle.flow_calls.specs.declared.entry.Entry.{Entry}
use Rattle.flow_calls.specs.Entries.{calls_by, numbers_by, parcels_of}
use Rattle.replica.specs.Caught.{ReplicaView}
use Rattle.flow_port.specs.declared.port.FlowPort.{FlowPort}
use Rattle.flow_port.specs.declared.seat.PortSeat.{PortSeat}
use Rattle.flow_port.specs.Ports.{IsFreshAt, limits_of, mine, opening_of, seen, since, whose}
use Rattle.flow_port.specs.Standing.{Stands, StandsAt}
use Rattle.running_phase.specs.declared.actors.Plan.{Plan}
use Rattle.running_phase.specs.declared.copies.FrameCopy.{FrameCopy}
use Rattle.running_phase.specs.declared.worker.Worker.{Worker}
use Rattle.running_phase.specs.Actors.{DidItsPart, HasKept, IsDoneWorker, IsFreshWorker, IsPlan}
use Rattle.running_phase.specs.Copies.{Finds, numbers, parcels, record_of}
use Rattle.running_phase.specs.Roster.{IsTaker}
use Rattle.running_phase.specs.Sends.{AreKept, sent_by}
use Rattle.running_phase.specs.Shares.{Did, calls_in, share_of}
use Rattle.running_phase.proofs.Doing.{did_ask, did_pass, on_ok_both, on_ok_then}

module _ (port : FlowPort) (p : Plan) (plan : IsPlan port p) (old : PortSeat) (fresh : IsFreshAt port old) where
  pub fresh_behind : All (λ n. All (λ (c : FrameCopy). n < c.number) p.phase.frames.now) (numbers_by (whose old).0 (seen old))
  fresh_behind = subst (λ h. All (λ n. All (λ (c : FrameCopy). n < c.number) p.phase.frames.now) (numbers_by (whose old).0 h)) (sym fresh.2) (plan.behind (whose old).0)

  pub fresh_stands : (r : ReplicaView) → Stands (limits_of port) (opening_of port) r → StandsAt port old r
  fresh_stands r stands = (opening_of port, ([], fresh.2 ∙ sym (append-nil (opening_of port))), stands)

  nothing_since : since port (seen old) ≡ []
  nothing_since = ap (since port) fresh.2 ∙ drop_all (length (opening_of port)) (opening_of port) (omega arith)

  nothing_kept : (look : ℕ → Option Frame) (kept : Option (Vec FrameCopy Global)) → IfSome kept (λ copies. copies.items ≡ [])
      → AreKept (sent_by (whose old).0 (limits_of port) look (opening_of port) (since port (seen old))) kept
  nothing_kept look None empty = tt
  nothing_kept look (Some copies) empty = ap (map record_of) empty ∙ sym (ap (sent_by (whose old).0 (limits_of port) look (opening_of port)) nothing_since)

  module _ {T E : Type 0} (result : Result T E) (new : PortSeat) (same : whose new ≡ whose old) where
    part_of : Did p.workers p.phase.shell.now p.phase.agents.now (parcels p.phase.frames.now) (whose old).0 (mine port new) → DidItsPart port p new
    part_of did = subst (λ (c : Caller). Did p.workers p.phase.shell.now p.phase.agents.now (parcels p.phase.frames.now) c.0 (mine port new)) (sym same) did

    pub asked_part : (whose old).0 ≤ 8
        → OnOk result (calls_by (whose old).0 (mine port new) ≡ calls_by (whose old).0 (mine port old) ++ calls_in p.phase.shell.now p.phase.agents.now (whose old).0)
        → OnOk result (parcels_of (mine port new) ≡ parcels_of (mine port old)) → OnOk result (DidItsPart port p new)
    asked_part low calls frames = on_ok_both result calls frames
        (λ asked none. part_of (did_ask p.workers p.phase.shell.now p.phase.agents.now (parcels p.phase.frames.now) (whose old).0 (mine port old) (mine port new) fresh.3 plan.one low asked none))

    pub passed_part : (w : Worker) → IsFreshWorker port p (whose old).0 w → ((who : ℕ) → calls_by who (mine port new) ≡ calls_by who (mine port old))
        → OnOk result (parcels_of (mine port new) ≡ parcels_of (mine port old) ++ share_of p.workers (whose old).0 (parcels p.phase.frames.now)) → OnOk result (DidItsPart port p new)
    passed_part w ready calls frames = on_ok_then result frames
        (λ passed. part_of (did_pass p.workers p.phase.shell.now p.phase.agents.now (parcels p.phase.frames.now) (whose old).0 (mine port old) (mine port new) fresh.3
        plan.queues ready.taker (calls (whose old).0) passed))

    pub passed_worker : (w left : Worker) → IsFreshWorker port p (whose old).0 w → StandsAt port new left.replica → ◌≡◌ {A = Bool} (is_some left.kept) (is_some w.kept) → IsDoneWorker port p new left
    passed_worker w left ready stands keeps =
        record { taker = subst (λ (c : Caller). IsTaker p.workers c.0) (sym same) ready.taker; stands = stands; keeps = keeps ∙ ready.keeps }

    pub passed_kept : (w left : Worker) → IsFreshWorker port p (whose old).0 w
        → OnOk result ((look : ℕ → Option Frame) → Finds look p.phase.frames.now → AreKept (sent_by (whose old).0 (limits_of port) look (opening_of port) (since port (seen old))) w.kept
        → AreKept (sent_by (whose old).0 (limits_of port) look (opening_of port) (since port (seen new))) left.kept)
        → OnOk result (HasKept port p new left)
    passed_kept w left ready kept = on_ok_then result kept
        (λ keeps look finds. subst (λ (c : Caller). AreKept (sent_by c.0 (limits_of port) look (opening_of port) (since port (seen new))) left.kept) (sym same)
        (keeps look finds (nothing_kept look w.kept ready.empty)))

-- the same middle, where the number of the workers and the opening have other names
pub middle_as : {T E : Type 0} (P : ℕ → List Entry → Type 0) (history : T → List Entry) {workers workers' : ℕ} {before before' : List Entry} (result : Result T E) → workers ≡ workers' → before ≡ before'
    → IfOk result (λ made. (middle : List Entry) × (history made ≡ before ++ middle) × P workers middle)
    → IfOk result (λ made. (middle : List Entry) × (history made ≡ before' ++ middle) × P workers' middle)
middle_as P history (Ok made) e f m = (m.0, m.1 ∙ ap (λ l. l ++ m.0) f, subst (λ w. P w m.0) e m.2)
middle_as P history (Err error) e f m = tt

-- what the caller of a middle promises makes a plan
pub plan_is : (port : FlowPort) {p : Plan} {opening : List Entry} → 1 ≤ p.workers → p.workers ≤ 16
    → (length p.phase.shell.now ≤ 2 ^ 32) × All (λ calls. length calls ≤ 2 ^ 32) p.phase.agents.now × (length p.phase.frames.now ≤ 2 ^ 32) → length p.phase.agents.now ≡ 8
    → IsStrictlyIncreasing (numbers p.phase.frames.now) → opening_of port ≡ opening
    → ((who : ℕ) → All (λ n. All (λ (c : FrameCopy). n < c.number) p.phase.frames.now) (numbers_by who opening)) → IsPlan port p
plan_is port {p} one few lists queues rising is behind = record {
  one = one;
  few = few;
  calls = lists.0;
  queues = queues;
  asked = lists.1;
  frames = lists.2;
  rising = rising;
  behind = λ who. subst (λ h. All (λ n. All (λ (c : FrameCopy). n < c.number) p.phase.frames.now) (numbers_by who h)) (sym is) (behind who);
}
