use Rattle.std.proofs.Common.{◌≡◌, ap, ◌∙◌, subst, Some, Option}
use Rattle.std.specs.Prelude.{IfOk}
use Rattle.flow_rules.specs.declared.spec.RuleSpec.{RuleSpec}
use Rattle.flow_rules.specs.Faults.{first}
use Rattle.template_tables.specs.Bound.{bind_refusals}
use Rattle.port_state.specs.KeptState.{KeptState, state_in}
use Rattle.port_state.specs.State.{bound, templates_in}
use Rattle.port_state.specs.StateInside.{state_kept}
use Rattle.port_state.proofs.TemplatesJudged.{bind-fault, bind-rule}
use Rattle.port_state.proofs.state.State.bind.Goals as goal

pub returns-clause-rule : goal.returns-clause-rule
returns-clause-rule c =
    let lists = c.args.lists.now in
    subst (λ (o : Option RuleSpec). IfOk c.bind.result (λ spec. o ≡ Some spec))
    (bind-rule (state_kept c.self.inside) c.args.table c.args.pt c.args.act lists.pattern lists.actions
    ∙ ap (λ (k : KeptState). bound (state_in k) c.args.table c.args.pt c.args.act lists) c.self.view_is) c.bind.ensures.rule

pub returns-clause-fault : goal.returns-clause-fault
returns-clause-fault c =
    let lists = c.args.lists.now in
    c.bind.ensures.refused ∙ ap first (bind-fault (state_kept c.self.inside) c.args.table c.args.pt c.args.act lists.pattern lists.actions)
    ∙ ap (λ (k : KeptState). first (bind_refusals (templates_in (state_in k)) c.args.table c.args.pt c.args.act lists.pattern lists.actions)) c.self.view_is
