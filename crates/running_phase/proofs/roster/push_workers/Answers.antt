use Rattle.std.proofs.Common.{◌+◌, ◌++◌, ◌∙◌, [], ◌∷◌, ap, sym, append_assoc, arith}
use Rattle.running_phase.specs.Roster.{caller_at, workers_from}
use Rattle.running_phase.proofs.Rosters.{workers_from-more}
use Rattle.running_phase.proofs.roster.push_workers.Goals as goal

pub loop-worker-preserved : goal.loop-worker-preserved
loop-worker-preserved c =
    let worker = c.loop-worker.worker in
    let first = c.args.callers.now.items in
    let more = c.push.ensures.len in
    let count = c.loop-worker.invariant.count in
    record {
      callers = c.push.ensures.items ∙ ap (λ l. l ++ caller_at (9 + worker) ∷ []) c.loop-worker.invariant.callers
          ∙ append_assoc first (workers_from 9 worker) (caller_at (9 + worker) ∷ [])
          ∙ ap (λ l. first ++ l) (sym (workers_from-more 9 worker));
      count = omega arith;
    }
