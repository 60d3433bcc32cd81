use Rattle.std.proofs.Common.{take}
use Rattle.std.specs.List.{flat_map}
use Rattle.io_edges.specs.Gather.{gather_of}
use Rattle.io_edges.specs.Prints.{Prints}
use Rattle.history_text.specs.Rows.{row_text}
use Rattle.history_text.proofs.row.print_rows.Given as goal

abbrev pub invariant-loop-place : goal.invariant-loop-place
invariant-loop-place g l = Prints (gather_of g.K.Sink.taken g.K.Sink.faults l.initial.sink l.initial.page)
    (gather_of g.K.Sink.taken g.K.Sink.faults l.sink l.page) (flat_map row_text (take l.place l.rows))
