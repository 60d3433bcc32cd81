use Rattle.std.proofs.Common.{refl, ap, ◌∙◌}
use Rattle.flow_rules.specs.Faults.{first}
use Rattle.template_tables.specs.Refusals.{actions_end_refusals}
use Rattle.port_state.specs.KeptState.{KeptState, state_in}
use Rattle.port_state.specs.State.{templates_in}
use Rattle.port_state.specs.StateInside.{state_kept}
use Rattle.port_state.specs.Tables.{actions_gone}
use Rattle.port_state.proofs.TemplatesJudged.{actions-end}
use Rattle.port_state.proofs.TemplatesKept.{gone}
use Rattle.port_state.proofs.state.State.end_actions.Goals as goal

pub returns-clause-state : goal.returns-clause-state
returns-clause-state c =
    let due = actions-end (state_kept c.self.inside) c.args.id ∙ ap (λ (k : KeptState). first (actions_end_refusals (templates_in (state_in k)) c.args.id)) c.self.view_is ∙ c.requires in
    gone c.self.inside _ c.destroy_actions.result c.destroy_actions.new.self _ (actions_gone c.args.id) c.self.view_is (c.destroy_actions.ensures.refused ∙ due) c.destroy_actions.ensures.gone refl
