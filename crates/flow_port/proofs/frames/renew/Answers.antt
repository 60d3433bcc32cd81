use Rattle.std.proofs.Common.{◌∙◌, ap}
use Rattle.std.proofs.lemmas.Result.{IfOk-weaker}
use Rattle.flow_port.specs.Bursts.{passed_all}
use Rattle.flow_port.proofs.Passing.{fit_current}
use Rattle.flow_port.proofs.frames.renew.Goals as goal

pub returns-clause-fit : goal.returns-clause-fit
returns-clause-fit c =
    let caller = c.args.frames.now.caller in
    let ps = c.args.frames.now.parcels.now in
    IfOk-weaker c.pack.result _ _
    (λ packed e. fit_current c.args.adapter.now.limits c.args.adapter.now.history caller ps c.classify.new.verdicts.items packed.items c.catch_up.new.replica c.in_ok-catch_up.ensures.current
    c.classify.ensures (e ∙ ap (passed_all caller ps) c.as_slice.ensures.value))
    c.pack.ensures
