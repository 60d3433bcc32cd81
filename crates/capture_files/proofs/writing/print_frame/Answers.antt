use Rattle.std.proofs.Common.{◌++◌, ap}
use Rattle.capture_files.specs.Writing.{record_bytes}
use Rattle.io_edges.proofs.Joins.{Prints-then, Prints-as}
use Rattle.capture_files.proofs.writing.print_frame.Goals as goal

pub returns-clause-prints : goal.returns-clause-prints
unfolding record_bytes
returns-clause-prints g c =
    Prints-as (ap (λ head. head ++ c.args.bytes.now) c.header_of_record-header.ensures) (Prints-then c.print.ensures.prints c.print-2.ensures.prints)
