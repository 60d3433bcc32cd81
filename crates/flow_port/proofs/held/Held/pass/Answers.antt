use Rattle.std.proofs.Common.{◌≡◌, ◌∙◌, sym}
use Rattle.flow_port.proofs.Passing.{added_nothing}
use Rattle.flow_port.proofs.held.Held.pass.Goals as goal

pub returns-in-Err-clause-grew : goal.returns-in-Err-clause-grew
returns-in-Err-clause-grew c =
    let before = c.args.self.now.adapter.history in
    let same : c.enter.new.adapter.history ≡ before = c.in-Err.ensures.err.history in
    same ∙ sym (added_nothing before c.args.frames.now.caller c.args.frames.now.parcels.now c.clear.new.self.items c.clear.ensures)
