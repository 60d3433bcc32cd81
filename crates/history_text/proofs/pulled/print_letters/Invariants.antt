use Rattle.std.proofs.Common.{take}
use Rattle.std.specs.List.{flat_map}
use Rattle.io_edges.specs.Gather.{gather_of}
use Rattle.io_edges.specs.Prints.{Prints}
use Rattle.history_text.specs.Pulled.{letter_of}
use Rattle.history_text.proofs.pulled.print_letters.Given as goal

abbrev pub invariant-loop-place : goal.invariant-loop-place
invariant-loop-place g l = Prints (gather_of g.K.Sink.taken g.K.Sink.faults l.initial.sink l.initial.page)
    (gather_of g.K.Sink.taken g.K.Sink.faults l.sink l.page) (flat_map letter_of (take l.place l.outcomes))
