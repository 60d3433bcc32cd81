use Rattle.std.proofs.Common.{ap, ◌∙◌}
use Rattle.flow_rules.specs.Faults.{first}
use Rattle.template_tables.specs.Refusals.{table_refusals}
use Rattle.port_state.specs.State.{templates_in}
use Rattle.port_state.specs.KeptState.{KeptState, state_in}
use Rattle.port_state.specs.StateInside.{state_kept}
use Rattle.port_state.proofs.TemplatesJudged.{table-fault}
use Rattle.port_state.proofs.state.State.table_fault.Goals as goal

pub returns : goal.returns
returns c =
    let patterns = c.args.templates.now.patterns.items in
    let actions = c.args.templates.now.actions.items in
    c.create_table_fault.ensures ∙ table-fault (state_kept c.self.inside) c.args.id c.args.attr.now c.args.rules_number patterns actions
    ∙ ap (λ (k : KeptState). first (table_refusals (templates_in (state_in k)) c.args.id c.args.attr.now c.args.rules_number patterns actions)) c.self.view_is
