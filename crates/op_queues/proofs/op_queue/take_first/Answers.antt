use Rattle.std.proofs.Common.{◌∙◌, sym, ap, [], ◌∷◌, ◌++◌, drop, slice_get, drop-drop}
use Rattle.circular_buffer.specs.Buffer.{buffer}
use Rattle.op_queues.proofs.Pulls.{take-more, take-past, drop-past}
use Rattle.op_queues.proofs.op_queue.take_first.Goals as goal

pub results-preserved : goal.results-preserved
results-preserved c =
    let xs = c.args.results.now.items in
    let k = c.results.counter in (
      c.push.ensures
          ∙ ap (λ ys. ys ++ c.in-Some.ok ∷ []) c.results.invariant.0
          ∙ take-more xs k c.in-Some.ok (sym (c.in-Some.ensures.value ∙ ap (λ b. slice_get b.items 0) c.results.invariant.1)),
      c.pop_front.ensures.items
          ∙ ap (λ b. buffer (drop 1 b.items) b.capacity) c.results.invariant.1
          ∙ ap (λ ys. buffer ys c.args.results.now.capacity) (drop-drop 1 k xs),
    )

pub returns-in_default-clause-outcomes : goal.returns-in_default-clause-outcomes
returns-in_default-clause-outcomes c =
    c.results.invariant.0
    ∙ take-past c.args.results.now.items c.results.counter c.args.n
    (sym (c.in_default.ensures.value ∙ ap (λ b. slice_get b.items 0) c.results.invariant.1)) c.results-test.true

pub returns-in_default-clause-left : goal.returns-in_default-clause-left
returns-in_default-clause-left c =
    c.pop_front.ensures.items
    ∙ ap (λ b. buffer (drop 1 b.items) b.capacity) c.results.invariant.1
    ∙ ap (λ ys. buffer ys c.args.results.now.capacity)
    (drop-past c.args.results.now.items c.results.counter c.args.n
    (sym (c.in_default.ensures.value ∙ ap (λ b. slice_get b.items 0) c.results.invariant.1)) c.results-test.true)
