use Rattle.testpmd_shell.specs.Options.{given_of}
use Rattle.testpmd_shell.proofs.Opening.{HasOpened-both}
use Rattle.testpmd_shell.proofs.fetch.open_all.Goals as goal

pub returns-clause-opened : goal.returns-clause-opened
returns-clause-opened g c =
    let script = c.in_ok-program.ensures in
    let both = c.in_ok-feed.ensures in
    HasOpened-both (given_of c.args.options.now) (g.S.Shelf.state c.args.shelf.now) (g.S.Shelf.state c.read_program.new.shelf) (g.S.Shelf.state c.open_both.new.shelf)
    c.in_ok-program.program c.in_ok-feed.feed script.calm script.others both.others both.calm both.written both.faults both.starts both.opened script.within script.program script.few
