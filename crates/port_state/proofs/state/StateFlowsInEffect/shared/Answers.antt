use Rattle.std.proofs.Common.{ap, ◌∙◌}
use Rattle.flow_rules.specs.Shared.{shared_at}
use Rattle.port_state.specs.KeptState.{KeptState, state_in}
use Rattle.port_state.proofs.state.StateFlowsInEffect.shared.Goals as goal

pub returns-clause-value : goal.returns-clause-value
returns-clause-value c = c.value_of.ensures.value ∙ ap (λ (k : KeptState). shared_at c.args.id (state_in k).shared) c.self.view_is
