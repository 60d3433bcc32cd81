use Rattle.std.proofs.Common.{arith}
use Rattle.history_text.specs.Pulled.{is_outcome}
use Rattle.history_text.proofs.Outcomes.{count_by-next}
use Rattle.history_text.proofs.pulled.count.Goals as goal

pub loop-place-preserved : goal.loop-place-preserved
loop-place-preserved c =
    omega (arith, count_by-next (is_outcome c.args.ok) c.args.outcomes.now c.loop-place.place c.get.result c.get.ensures, c.one-count.ensures, c.loop-place.invariant)
