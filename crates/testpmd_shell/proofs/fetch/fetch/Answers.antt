use Rattle.std.proofs.Common.{List, ap, ◌∙◌, subst}
use Rattle.flow_grammar.specs.declared.part.Part.{Part}
use Rattle.whole_history.specs.Reach.{has_phase}
use Rattle.testpmd_shell.specs.Fetch.{HasFinished}
use Rattle.testpmd_shell.specs.Options.{given_of}
use Rattle.testpmd_shell.specs.Session.{IsSerial}
use Rattle.testpmd_shell.specs.Sending.{records_kept}
use Rattle.testpmd_shell.specs.Ways.{serially}
use Rattle.testpmd_shell.proofs.Opening.{HasRun-finished, IsWhy-run, reads-run, sized-run}
use Rattle.testpmd_shell.proofs.WaysRun.{serial-run}
use Rattle.testpmd_shell.proofs.fetch.fetch.Goals as goal

pub returns-clause-ran : goal.returns-clause-ran
returns-clause-ran g c =
    let given = given_of c.args.options.now in
    HasRun-finished serially (IsSerial given) (serial-run given) given (g.S.Shelf.state c.args.shelf.now) (g.S.Shelf.state c.open_all.new.shelf) (g.S.Shelf.state c.run.new.shelf)
    c.in_ok-program.field-0.program c.in_ok-program.field-0.feed c.in-Ok.ran.adapter (records_kept c.in-Ok.ran.kept) c.in-Ok.ran.ending
    c.requires.fresh.capture_reads c.in_ok-program.ensures.opened
    (subst (λ (p : List Part). HasFinished serially given p c.in_ok-program.field-0.feed (g.S.Shelf.state c.open_all.new.shelf) (g.S.Shelf.state c.run.new.shelf)
    c.in-Ok.ran.adapter (records_kept c.in-Ok.ran.kept) c.in-Ok.ran.ending) c.as_slice.ensures c.in-Ok.ensures.finished)

pub returns-clause-sized : goal.returns-clause-sized
returns-clause-sized g c =
    sized-run (given_of c.args.options.now) (g.S.Shelf.state c.args.shelf.now) (g.S.Shelf.state c.open_all.new.shelf) (g.S.Shelf.state c.run.new.shelf)
    c.in_ok-program.field-0.program c.in_ok-program.field-0.feed c.in_ok-program.ensures.opened

pub returns-clause-reads : goal.returns-clause-reads
returns-clause-reads g c =
    reads-run (given_of c.args.options.now) (g.S.Shelf.state c.args.shelf.now) (g.S.Shelf.state c.open_all.new.shelf) (g.S.Shelf.state c.run.new.shelf)
    c.in_ok-program.field-0.program c.in_ok-program.field-0.feed c.in_ok-program.ensures.opened (λ none. c.in-Ok.ensures.unread (ap has_phase c.as_slice.ensures ∙ none))

pub returns-in_default-clause-why : goal.returns-in_default-clause-why
returns-in_default-clause-why g c =
    IsWhy-run (given_of c.args.options.now) (g.S.Shelf.state c.args.shelf.now) (g.S.Shelf.state c.open_all.new.shelf) (g.S.Shelf.state c.run.new.shelf)
    c.in_ok-program.field-0.program c.in_ok-program.field-0.feed c.in_ok-program.ensures.opened c.run.ensures.keeps

pub returns-in_default-clause-sized : goal.returns-in_default-clause-sized
returns-in_default-clause-sized g c =
    sized-run (given_of c.args.options.now) (g.S.Shelf.state c.args.shelf.now) (g.S.Shelf.state c.open_all.new.shelf) (g.S.Shelf.state c.run.new.shelf)
    c.in_ok-program.field-0.program c.in_ok-program.field-0.feed c.in_ok-program.ensures.opened

pub returns-in_default-clause-reads : goal.returns-in_default-clause-reads
returns-in_default-clause-reads g c =
    reads-run (given_of c.args.options.now) (g.S.Shelf.state c.args.shelf.now) (g.S.Shelf.state c.open_all.new.shelf) (g.S.Shelf.state c.run.new.shelf)
    c.in_ok-program.field-0.program c.in_ok-program.field-0.feed c.in_ok-program.ensures.opened (λ none. c.run.ensures.unread (ap has_phase c.as_slice.ensures ∙ none))
