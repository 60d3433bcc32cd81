use Rattle.std.proofs.Common.{ap, ◌∙◌}
use Rattle.indirect_counters.specs.Refusals as shared_calls
use Rattle.port_state.specs.State.{objects}
use Rattle.port_state.specs.KeptState.{KeptState, state_in}
use Rattle.port_state.specs.StateInside.{state_kept}
use Rattle.port_state.proofs.Objects.{objects-update}
use Rattle.port_state.proofs.state.State.update_fault.Goals as goal

pub returns : goal.returns
returns c =
    c.update_fault.ensures
    ∙ objects-update (state_kept c.self.inside) c.len-number.ensures.sound.ids c.args.limits.now.rxq c.args.id c.args.action.now
    ∙ ap (λ (k : KeptState). shared_calls.update_fault c.args.limits.now.rxq (objects (state_in k)) c.args.id c.args.action.now) c.self.view_is
