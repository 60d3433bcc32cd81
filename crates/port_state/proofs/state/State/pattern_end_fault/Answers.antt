use Rattle.std.proofs.Common.{ap, ◌∙◌}
use Rattle.flow_rules.specs.Faults.{first}
use Rattle.template_tables.specs.Refusals.{pattern_end_refusals}
use Rattle.port_state.specs.State.{templates_in}
use Rattle.port_state.specs.KeptState.{KeptState, state_in}
use Rattle.port_state.specs.StateInside.{state_kept}
use Rattle.port_state.proofs.TemplatesJudged.{pattern-end}
use Rattle.port_state.proofs.state.State.pattern_end_fault.Goals as goal

pub returns : goal.returns
returns c =
    c.destroy_pattern_fault.ensures ∙ pattern-end (state_kept c.self.inside) c.args.id
    ∙ ap (λ (k : KeptState). first (pattern_end_refusals (templates_in (state_in k)) c.args.id)) c.self.view_is
