use Rattle.testpmd_shell.specs.Sending.{records_kept}
use Rattle.testpmd_shell.proofs.Telling.{IsSent-all}
use Rattle.testpmd_shell.proofs.shell.send_behind.Goals as goal

pub returns-in-Ok-clause-sent : goal.returns-in-Ok-clause-sent
returns-in-Ok-clause-sent g c =
    IsSent-all c.status_of.result c.args.ran.now.ending (records_kept c.args.ran.now.kept) (g.S.Shelf.state c.args.shelf.now).written (g.S.Shelf.state c.send.new.shelf).written
    c.status_of.ensures c.in-Ok.ensures.all
