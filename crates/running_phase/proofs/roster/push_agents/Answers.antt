use Rattle.std.proofs.Common.{◌+◌, ◌++◌, ◌∙◌, ap, sym, append_assoc, take, get_or, arith}
use Rattle.running_phase.specs.Roster.{agents_from, with_calls}
use Rattle.running_phase.proofs.Rosters.{agents_from-more}
use Rattle.running_phase.proofs.roster.push_agents.Goals as goal

pub loop-queue-preserved : goal.loop-queue-preserved
loop-queue-preserved c =
    let queue = c.loop-queue.queue in
    let first = c.args.callers.now.items in
    let agents = c.args.agents.now in
    let calls = c.index-agents-from.result in
    let below = c.loop-queue-test.true in
    let eight = c.type_inv.agents in
    let more = c.push_asker.ensures.count in
    let count = c.loop-queue.invariant.count in
    record {
      callers = c.push_asker.ensures.callers ∙ ap (λ x. c.loop-queue.callers.items ++ with_calls (1 + queue) x) (sym c.index-agents-from.is)
          ∙ ap (λ l. l ++ with_calls (1 + queue) calls) c.loop-queue.invariant.callers
          ∙ append_assoc first (agents_from 1 (take queue agents)) (with_calls (1 + queue) calls)
          ∙ ap (λ l. first ++ l) (sym (agents_from-more 1 queue agents calls (omega arith) (c.index-agents-from.is ∙ ap (λ n. get_or agents n calls) c.from.ensures)));
      count = omega arith;
    }
