use Rattle.std.proofs.Common.{refl}
use Rattle.io_edges.proofs.Joins.{Prints-past}
use Rattle.io_edges.proofs.printing.print_through.Goals as goal

pub returns-then-piece-gt-PAGE_SIZE-clause-prints : goal.returns-then-piece-gt-PAGE_SIZE-clause-prints
returns-then-piece-gt-PAGE_SIZE-clause-prints g c =
    Prints-past _ _ _ _ _ _ _ _ _ _ (rw c.flush.ensures.emptied refl) c.flush.ensures.prints c.send.ensures.prints
