use Rattle.std.proofs.Common.{◌≡◌, ℕ, ◌<◌, ◌≤◌, ◌++◌, Option, All, length}
use Rattle.std.specs.List.Sorted.{IsStrictlyIncreasing}
use Rattle.std.specs.Option.{is_some}
use Rattle.capture_files.specs.Record.{Frame}
use Rattle.flow_calls.specs.Entries.{calls_by, numbers_by, parcels_of}
use Rattle.flow_port.specs.Ports.{IsSeatAt, limits_of, mine, opening_of, seen, since, turns, whose}
use Rattle.flow_port.specs.Standing.{StandsAt}
use Rattle.running_phase.specs.declared.copies.FrameCopy.{FrameCopy}
use Rattle.running_phase.specs.Copies.{Finds, numbers, parcels}
use Rattle.running_phase.specs.Sends.{AreKept, sent_by}
use Rattle.running_phase.specs.Shares.{share_of}
use Rattle.running_phase.proofs.worker.work.Given as goal

abbrev pub decreases-loop-rest : goal.decreases-loop-rest
decreases-loop-rest g l = length l.rest

abbrev pub invariant-loop-rest : goal.invariant-loop-rest
invariant-loop-rest g l =
    let who = (whose l.fn.seat).0 in
    let limits = limits_of l.port in
    let opening = opening_of l.port in
    record {
      seat : IsSeatAt l.port l.seat;
      caller : whose l.seat ≡ whose l.fn.seat;
      left : length l.rest ≤ turns l.seat;
      rising : IsStrictlyIncreasing (numbers l.rest);
      behind : All (λ n. All (λ (c : FrameCopy). n < c.number) l.rest) (numbers_by who (seen l.seat));
      stands : StandsAt l.port l.seat l.worker.replica;
      calls : (k : ℕ) → calls_by k (mine l.port l.seat) ≡ calls_by k (mine l.port l.fn.seat);
      frames : parcels_of (mine l.port l.seat) ++ share_of l.frames.workers who (parcels l.rest) ≡ parcels_of (mine l.port l.fn.seat) ++ share_of l.frames.workers who (parcels l.frames.copies.now);
      keeps : is_some l.worker.kept ≡ is_some l.fn.worker.kept;
      found : (look : ℕ → Option Frame) → Finds look l.frames.copies.now → Finds look l.rest;
      kept : (look : ℕ → Option Frame) → Finds look l.frames.copies.now
          → AreKept (sent_by who limits look opening (since l.port (seen l.fn.seat))) l.fn.worker.kept
          → AreKept (sent_by who limits look opening (since l.port (seen l.seat))) l.worker.kept;
    }
