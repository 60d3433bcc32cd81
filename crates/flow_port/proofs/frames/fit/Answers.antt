use Rattle.std.proofs.Common.{◌∙◌, sym}
use Rattle.std.proofs.lemmas.Result.{IfOk-weaker}
use Rattle.flow_port.specs.Standing.{IsCurrent}
use Rattle.flow_port.proofs.Passing.{fit_current}
use Rattle.flow_port.proofs.frames.fit.Goals as goal

pub returns-then-version-clause-fit : goal.returns-then-version-clause-fit
returns-then-version-clause-fit c =
    let limits = c.args.adapter.now.limits in
    let history = c.args.adapter.now.history in
    let current : IsCurrent limits history c.args.replica.now = record { stands = c.requires.stands; version = sym c.version.ensures ∙ c.if-version.true ∙ c.version-2.ensures.number } in
    IfOk-weaker c.args.packed _ _
    (λ ready e. fit_current limits history c.args.frames.now.caller c.args.frames.now.parcels.now c.args.verdicts.now.items ready.items c.args.replica.now current c.requires.verdicts e)
    c.requires.packed
