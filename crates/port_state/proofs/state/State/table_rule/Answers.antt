use Rattle.std.proofs.Common.{◌≡◌, ◌∙◌, sym, ap, subst, is_some, Option, IfSome}
use Rattle.std.specs.Prelude.{IfOk}
use Rattle.std.specs.Result.{result_err}
use Rattle.flow_rules.specs.declared.fault.Fault.{Fault}
use Rattle.flow_rules.specs.declared.spec.RuleSpec.{RuleSpec}
use Rattle.flow_rules.specs.Faults.{rule_of}
use Rattle.template_tables.specs.TemplatesView.{table_of}
use Rattle.port_state.specs.KeptState.{state_in}
use Rattle.port_state.specs.State.{bound, bound_fault, first_of, templates_in}
use Rattle.port_state.proofs.Places.{at-ok, ok-any}
use Rattle.port_state.proofs.TemplatesJudged.{bound-there}
use Rattle.port_state.proofs.state.State.table_rule.Goals as goal

pub returns-in-Err-clause-fault : goal.returns-in-Err-clause-fault
returns-in-Err-clause-fault c =
    let s = state_in c.args.self.now in
    let lists = c.args.lists.now in
    ap (λ (o : Option Fault). first_of o (bound_fault c.args.limits.now s c.args.table (bound s c.args.table c.args.pt c.args.act lists)))
    (sym (ap result_err c.in-Err.is) ∙ c.bind.ensures.fault)

pub rule_for-requires-clause-there : goal.rule_for-requires-clause-there
rule_for-requires-clause-there c =
    let t = templates_in (state_in c.args.self.now) in
    let lists = c.args.lists.now in
    bound-there t (table_of c.args.table t) c.args.pt c.args.act lists.pattern lists.actions c.in-Ok.spec (at-ok c.bind.result c.in-Ok.spec c.in-Ok.is _ c.bind.ensures.rule)

pub returns-clause-rule : goal.returns-clause-rule
returns-clause-rule c =
    let s = state_in c.args.self.now in
    let is = at-ok c.bind.result c.in-Ok.spec c.in-Ok.is _ c.bind.ensures.rule in
    subst (λ (o : Option RuleSpec). IfOk c.rule_for.result (λ rule. IfSome o (λ spec. rule ≡ rule_of s.ids spec))) (sym is) c.rule_for.ensures.rule

pub returns-clause-bound : goal.returns-clause-bound
returns-clause-bound c =
    let is = at-ok c.bind.result c.in-Ok.spec c.in-Ok.is _ c.bind.ensures.rule in
    ok-any c.rule_for.result _ (ap (λ (o : Option RuleSpec). is_some o) is)

pub returns-clause-fault : goal.returns-clause-fault
returns-clause-fault c =
    let s = state_in c.args.self.now in
    let lists = c.args.lists.now in
    let is = at-ok c.bind.result c.in-Ok.spec c.in-Ok.is _ c.bind.ensures.rule in
    c.rule_for.ensures.fault
    ∙ ap (λ (o : Option RuleSpec). bound_fault c.args.limits.now s c.args.table o) (sym is)
    ∙ ap (λ (o : Option Fault). first_of o (bound_fault c.args.limits.now s c.args.table (bound s c.args.table c.args.pt c.args.act lists)))
    (sym (ap result_err c.in-Ok.is) ∙ c.bind.ensures.fault)
