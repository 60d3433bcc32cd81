-- Behind the first number each number has a comma before it.
use Rattle.std.proofs.Common.{◌∷◌, take}
use Rattle.std.specs.List.{flat_map}
use Rattle.io_edges.specs.Gather.{gather_of}
use Rattle.io_edges.specs.Prints.{Prints}
use Rattle.io_edges.proofs.printing.print_numbers.Given as goal

abbrev pub invariant-loop-number : goal.invariant-loop-number
invariant-loop-number g l = record {
  prints : Prints (gather_of g.K.Sink.taken g.K.Sink.faults l.initial.sink l.initial.page)
      (gather_of g.K.Sink.taken g.K.Sink.faults l.sink l.page) (flat_map (λ n. 44 ∷ g.I.Integer.text n) (take l.number-index l.rest));
  keeps : g.K.Sink.keeps l.initial.sink l.sink;
}
