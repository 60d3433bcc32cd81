use Rattle.std.proofs.Common.{[]}
use Rattle.io_edges.proofs.Joins.{Gathered-start}
use Rattle.history_text.proofs.transcript.print_history.Goals as goal

pub returns : goal.returns
returns g c =
    let start = Gathered-start g.K.Sink.taken g.K.Sink.faults c.args.sink.now c.new-page.result c.new-page.ensures in
    let ends = c.finish.ensures.finishes.on _ _ (c.print_end.ensures.on _ _ (c.print_entries.ensures.on _ [] start)) in
    record { whole = ends.whole; front = ends.front; cause = ends.cause; told = ends.told }
