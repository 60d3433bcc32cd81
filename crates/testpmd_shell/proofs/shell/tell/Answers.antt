use Rattle.std.proofs.Common.{inl, refl}
use Rattle.testpmd_shell.specs.Sending.{records_kept}
use Rattle.testpmd_shell.proofs.Telling.{IsTold-sent}
use Rattle.testpmd_shell.proofs.shell.tell.Goals as goal

pub returns-in-Ok-clause-told : goal.returns-in-Ok-clause-told
returns-in-Ok-clause-told g c =
    IsTold-sent c.send_behind.result c.args.ran.now.ending c.args.ran.now.adapter (records_kept c.args.ran.now.kept)
    (g.K.Sink.taken c.args.out.now) (g.K.Sink.taken c.print_history.new.sink) (g.K.Sink.faults c.args.out.now) (g.K.Sink.faults c.print_history.new.sink)
    (g.S.Shelf.state c.args.shelf.now).written (g.S.Shelf.state c.send_behind.new.shelf).written
    c.in-Ok.ensures.cause.kept c.in-Ok.ensures.whole c.send_behind.ensures.sent

pub returns-in-Err-clause-told : goal.returns-in-Err-clause-told
returns-in-Err-clause-told g c = inl (c.in-Err.ensures.cause.rose c.requires.sink, (c.in-Err.field-0.sent, c.in-Err.ensures.front), refl)
