use Rattle.std.proofs.Common.{take}
use Rattle.io_edges.specs.Gather.{gather_of}
use Rattle.io_edges.specs.Prints.{Prints}
use Rattle.testpmd_shell.specs.Sending.{records_of}
use Rattle.testpmd_shell.proofs.transmit.print_records.Given as goal

abbrev pub invariant-loop-place : goal.invariant-loop-place
invariant-loop-place g l = record {
  prints : Prints (gather_of g.K.Sink.taken g.K.Sink.faults l.initial.sink l.initial.page)
      (gather_of g.K.Sink.taken g.K.Sink.faults l.sink l.page) (records_of (take l.place l.kept));
  keeps : g.K.Sink.keeps l.initial.sink l.sink;
}
