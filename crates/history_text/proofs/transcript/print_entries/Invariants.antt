-- The lines of the entries so far are printed.
use Rattle.std.proofs.Common.{take}
use Rattle.std.specs.List.{flat_map}
use Rattle.io_edges.specs.Gather.{gather_of}
use Rattle.io_edges.specs.Prints.{Prints}
use Rattle.history_text.specs.Text.{entry_text}
use Rattle.history_text.proofs.transcript.print_entries.Given as goal

abbrev pub invariant-loop-place : goal.invariant-loop-place
invariant-loop-place g l = Prints (gather_of g.K.Sink.taken g.K.Sink.faults l.initial.sink l.initial.page)
    (gather_of g.K.Sink.taken g.K.Sink.faults l.sink l.page) (flat_map (entry_text l.adapter.limits) (take l.place l.adapter.history))
