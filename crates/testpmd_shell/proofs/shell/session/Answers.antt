use Rattle.std.proofs.Common.{Some, Option, map, sym, subst}
use Rattle.testpmd_shell.specs.Options.{Given, given_of, options_of}
use Rattle.testpmd_shell.specs.Run.{edges_of}
use Rattle.testpmd_shell.specs.Session.{CompletesBy, IsLegalAndWhole, IsReadBy, IsSerial, IsTooLargeBy, SaysBy}
use Rattle.testpmd_shell.proofs.Statuses.{CompletesBy-says, IsTooLargeBy-says, SaysBy-usage, SaysBy-weaker}
use Rattle.testpmd_shell.proofs.WaysRun.{IsLegalAndWhole-serial}
use Rattle.testpmd_shell.proofs.shell.session.Goals as goal

-- ---- in the serial order

pub returns-in-None-clause-says : goal.returns-in-None-clause-says
returns-in-None-clause-says g c =
    SaysBy-weaker IsSerial IsLegalAndWhole IsLegalAndWhole-serial
    (options_of (map (λ w. w.now) c.args.words.now))
    (edges_of g.S.Shelf.state g.K.Sink.taken g.K.Sink.faults c.args.shelf.now c.args.out.now)
    (edges_of g.S.Shelf.state g.K.Sink.taken g.K.Sink.faults c.session_serial.new.shelf c.session_serial.new.out)
    c.session_serial.result c.session_serial.ensures.says

-- ---- with workers

pub returns-in-Some-clause-says : goal.returns-in-Some-clause-says
returns-in-Some-clause-says g c =
    let before = edges_of g.S.Shelf.state g.K.Sink.taken g.K.Sink.faults c.args.shelf.now c.args.out.now in
    let after = edges_of g.S.Shelf.state g.K.Sink.taken g.K.Sink.faults c.answer_on_threads.new.shelf c.answer_on_threads.new.out in
    subst (λ (o : Option Given). SaysBy IsLegalAndWhole o before after c.answer_on_threads.result) (sym c.in-Some.ensures.options) c.answer_on_threads.ensures.says

pub returns-in-Some-clause-usage : goal.returns-in-Some-clause-usage
returns-in-Some-clause-usage g c = λ usage.
    let before = edges_of g.S.Shelf.state g.K.Sink.taken g.K.Sink.faults c.args.shelf.now c.args.out.now in
    let after = edges_of g.S.Shelf.state g.K.Sink.taken g.K.Sink.faults c.answer_on_threads.new.shelf c.answer_on_threads.new.out in
    absurd (SaysBy-usage IsLegalAndWhole (given_of c.in-Some.options) before after c.answer_on_threads.result c.answer_on_threads.ensures.says usage)

pub returns-in-Some-clause-complete : goal.returns-in-Some-clause-complete
returns-in-Some-clause-complete g c =
    let before = edges_of g.S.Shelf.state g.K.Sink.taken g.K.Sink.faults c.args.shelf.now c.args.out.now in
    let after = edges_of g.S.Shelf.state g.K.Sink.taken g.K.Sink.faults c.answer_on_threads.new.shelf c.answer_on_threads.new.out in
    subst (λ (o : Option Given). CompletesBy o before after c.answer_on_threads.result) (sym c.in-Some.ensures.options)
    (CompletesBy-says IsLegalAndWhole (Some (given_of c.in-Some.options)) before after c.answer_on_threads.result c.answer_on_threads.ensures.says)

pub returns-in-Some-clause-reads : goal.returns-in-Some-clause-reads
returns-in-Some-clause-reads g c =
    subst (λ (o : Option Given). IsReadBy o (g.S.Shelf.state c.args.shelf.now) (g.S.Shelf.state c.answer_on_threads.new.shelf)) (sym c.in-Some.ensures.options) c.answer_on_threads.ensures.reads

pub returns-in-Some-clause-large : goal.returns-in-Some-clause-large
returns-in-Some-clause-large g c =
    let before = edges_of g.S.Shelf.state g.K.Sink.taken g.K.Sink.faults c.args.shelf.now c.args.out.now in
    let after = edges_of g.S.Shelf.state g.K.Sink.taken g.K.Sink.faults c.answer_on_threads.new.shelf c.answer_on_threads.new.out in
    subst (λ (o : Option Given). IsTooLargeBy o before.shelf after.shelf c.answer_on_threads.result) (sym c.in-Some.ensures.options)
    (IsTooLargeBy-says IsLegalAndWhole (Some (given_of c.in-Some.options)) before after c.answer_on_threads.result c.answer_on_threads.ensures.says)
