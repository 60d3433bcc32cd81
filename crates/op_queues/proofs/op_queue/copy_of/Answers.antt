use Rattle.std.proofs.Common.{◌≡◌, ◌∙◌, sym, ap, [], ◌∷◌, ◌++◌}
use Rattle.std.specs.Option.{option_copied}
use Rattle.op_queues.proofs.Pulls.{take-at}
use Rattle.op_queues.proofs.op_queue.copy_of.Goals as goal

pub loop-place-preserved : goal.loop-place-preserved
loop-place-preserved c =
    c.push.ensures
    ∙ ap (λ ys. ys ++ c.unwrap-ok.result.now ∷ []) c.loop-place.invariant
    ∙ take-at c.args.results.now.items c.loop-place.place c.unwrap-ok.result.now (sym c.get.ensures ∙ ap option_copied c.unwrap-ok.ensures)
