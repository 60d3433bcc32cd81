use Rattle.io_edges.proofs.Joins.{Prints-failed}
use Rattle.io_edges.proofs.printing.send.Goals as goal

-- the last write took a front of what waited, and failed
pub returns-clause-prints : goal.returns-clause-prints
returns-clause-prints g c =
    Prints-failed _ _ _ _ _ _ _ _ _ c.if-sending.false c.in-Err.ensures.front c.in-Err.ensures.cause.later
    c.in-Err.ensures.cause.rose c.write_all.ensures.told c.saturating_add-sending-2.ensures
