use Rattle.std.proofs.Common.{[]}
use Rattle.io_edges.proofs.Joins.{Gathered-start}
use Rattle.testpmd_shell.proofs.transmit.write_file.Goals as goal

pub returns-clause-ends : goal.returns-clause-ends
returns-clause-ends g c =
    let start = Gathered-start g.K.Sink.taken g.K.Sink.faults c.args.sink.now c.new-page.result c.new-page.ensures in
    c.finish.ensures.finishes.on _ _ (c.print_records.ensures.prints.on _ _ (c.print_header.ensures.prints.on _ [] start))
