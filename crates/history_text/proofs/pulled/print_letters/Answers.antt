use Rattle.io_edges.proofs.Joins.{Prints-next, Prints-as}
use Rattle.history_text.specs.Pulled.{letter_of}
use Rattle.history_text.proofs.pulled.print_letters.Goals as goal

pub loop-place-preserved : goal.loop-place-preserved
loop-place-preserved g c =
    Prints-next letter_of c.args.outcomes.now c.loop-place.place c.get.result c.get.ensures c.loop-place.invariant (Prints-as c.letter.ensures c.print.ensures.prints)
