use Rattle.std.proofs.Common.{◌≡◌, ◌∙◌, Some, Option, subst, sym, ap, map}
use Rattle.testpmd_shell.specs.declared.status.Status.TheVariants as status
use Rattle.std.specs.Option.{option_map}
use Rattle.testpmd_shell.specs.Options.{Given, given_of, options_of}
use Rattle.testpmd_shell.specs.Run.{edges_of}
use Rattle.testpmd_shell.specs.Session.{IsSerial, CompletesBy, IsTooLargeBy}
use Rattle.testpmd_shell.proofs.Statuses.{SaysBy-no_memory, IsReadBy-unread, CompletesBy-says, IsTooLargeBy-says}
use Rattle.testpmd_shell.proofs.shell.session_serial.Goals as goal

-- ---- no memory to read the words

pub returns-in_default-clause-says : goal.returns-in_default-clause-says
returns-in_default-clause-says g c =
    SaysBy-no_memory IsSerial (options_of (map (λ w. w.now) c.args.words.now))
    (edges_of g.S.Shelf.state g.K.Sink.taken g.K.Sink.faults c.args.shelf.now c.args.out.now)

pub returns-in_default-clause-complete : goal.returns-in_default-clause-complete
returns-in_default-clause-complete g c =
    let given = options_of (map (λ w. w.now) c.args.words.now) in
    let edges = edges_of g.S.Shelf.state g.K.Sink.taken g.K.Sink.faults c.args.shelf.now c.args.out.now in
    CompletesBy-says IsSerial given edges edges status.NoMemory (SaysBy-no_memory IsSerial given edges)

pub returns-in_default-clause-reads : goal.returns-in_default-clause-reads
returns-in_default-clause-reads g c = IsReadBy-unread (options_of (map (λ w. w.now) c.args.words.now)) (g.S.Shelf.state c.args.shelf.now)

pub returns-in_default-clause-large : goal.returns-in_default-clause-large
returns-in_default-clause-large g c =
    let given = options_of (map (λ w. w.now) c.args.words.now) in
    let edges = edges_of g.S.Shelf.state g.K.Sink.taken g.K.Sink.faults c.args.shelf.now c.args.out.now in
    IsTooLargeBy-says IsSerial given edges edges status.NoMemory (SaysBy-no_memory IsSerial given edges)

-- ---- a session of these options

pub returns-clause-complete : goal.returns-clause-complete
returns-clause-complete g c =
    let before = edges_of g.S.Shelf.state g.K.Sink.taken g.K.Sink.faults c.args.shelf.now c.args.out.now in
    let after = edges_of g.S.Shelf.state g.K.Sink.taken g.K.Sink.faults c.answer.new.shelf c.answer.new.out in
    let given : Some (given_of c.in-Some.options) ≡ options_of (map (λ w. w.now) c.args.words.now) = sym (ap (option_map given_of) c.in-Some.is) ∙ c.in-Ok.ensures.options in
    subst (λ (o : Option Given). CompletesBy o before after c.answer.result) given
    (CompletesBy-says IsSerial (Some (given_of c.in-Some.options)) before after c.answer.result c.answer.ensures.says)

pub returns-clause-large : goal.returns-clause-large
returns-clause-large g c =
    let before = edges_of g.S.Shelf.state g.K.Sink.taken g.K.Sink.faults c.args.shelf.now c.args.out.now in
    let after = edges_of g.S.Shelf.state g.K.Sink.taken g.K.Sink.faults c.answer.new.shelf c.answer.new.out in
    let given : Some (given_of c.in-Some.options) ≡ options_of (map (λ w. w.now) c.args.words.now) = sym (ap (option_map given_of) c.in-Some.is) ∙ c.in-Ok.ensures.options in
    subst (λ (o : Option Given). IsTooLargeBy o before.shelf after.shelf c.answer.result) given
    (IsTooLargeBy-says IsSerial (Some (given_of c.in-Some.options)) before after c.answer.result c.answer.ensures.says)
