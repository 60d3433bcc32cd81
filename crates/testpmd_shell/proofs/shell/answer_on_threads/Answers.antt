use Rattle.std.proofs.Common.{Some, sym, subst}
use Rattle.io_edges.specs.ShelfState.{ShelfState}
use Rattle.testpmd_shell.specs.Options.{given_of}
use Rattle.testpmd_shell.specs.Run.{edges_of}
use Rattle.testpmd_shell.specs.Sending.{records_kept}
use Rattle.testpmd_shell.specs.Session.{IsLegalAndWhole, IsReadBy, IsWhy}
use Rattle.testpmd_shell.specs.declared.status.Status.{Status}
use Rattle.testpmd_shell.proofs.Statuses.{SaysBy-stopped, SaysBy-told}
use Rattle.testpmd_shell.proofs.shell.answer_on_threads.Goals as goal

pub returns-in-Ok-clause-says : goal.returns-in-Ok-clause-says
returns-in-Ok-clause-says g c =
    let before = edges_of g.S.Shelf.state g.K.Sink.taken g.K.Sink.faults c.args.shelf.now c.args.out.now in
    SaysBy-told IsLegalAndWhole (given_of c.args.options.now) before (g.S.Shelf.state c.fetch_on_threads.new.shelf) (g.S.Shelf.state c.tell.new.shelf) (g.K.Sink.taken c.tell.new.out) (g.K.Sink.faults c.tell.new.out)
    c.in-Ok.ran.adapter (records_kept c.in-Ok.ran.kept) c.in-Ok.ran.ending c.tell.result c.requires.fresh.capture_reads c.in-Ok.ensures.ran c.tell.ensures.told c.tell.ensures.others

pub returns-in-Ok-clause-reads : goal.returns-in-Ok-clause-reads
returns-in-Ok-clause-reads g c =
    subst (λ (shelf : ShelfState). IsReadBy (Some (given_of c.args.options.now)) (g.S.Shelf.state c.args.shelf.now) shelf) (sym c.tell.ensures.others) c.in-Ok.ensures.reads

pub returns-in-Err-clause-says : goal.returns-in-Err-clause-says
returns-in-Err-clause-says g c =
    let given = given_of c.args.options.now in
    let s = g.S.Shelf.state c.args.shelf.now in
    let t = g.S.Shelf.state c.fetch_on_threads.new.shelf in
    SaysBy-stopped IsLegalAndWhole given (edges_of g.S.Shelf.state g.K.Sink.taken g.K.Sink.faults c.args.shelf.now c.args.out.now) t c.status_of_stop.result
    (subst (λ (answer : Status). IsWhy given s t answer) (sym c.status_of_stop.ensures) c.in-Err.ensures.why) c.in-Err.ensures.sized
