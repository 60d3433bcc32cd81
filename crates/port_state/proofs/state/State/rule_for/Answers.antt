use Rattle.std.proofs.Common.{◌∙◌, sym, ap, Option}
use Rattle.std.specs.Result.{result_err}
use Rattle.flow_rules.specs.RuleView.{RuleView}
use Rattle.flow_rules.specs.declared.fault.Fault.{Fault}
use Rattle.flow_rules.specs.Faults.{first}
use Rattle.template_tables.specs.Slots.{slot_refusals}
use Rattle.template_tables.specs.TemplatesView.{table_of}
use Rattle.port_state.specs.KeptState.{KeptState, state_in}
use Rattle.port_state.specs.State.{first_of, ids_fault, templates_in}
use Rattle.port_state.proofs.Places.{no-first, no-second, id-left, at-ok}
use Rattle.port_state.proofs.state.State.rule_for.Goals as goal

pub returns-in-Err-clause-fault : goal.returns-in-Err-clause-fault
returns-in-Err-clause-fault c =
    let s = state_in c.args.self.now in
    let place = first_of (first (slot_refusals (table_of c.args.table (templates_in s)))) (ids_fault s) in
    ap (λ (o : Option Fault). first_of o place) (sym (ap result_err c.in-Err.is) ∙ c.validate.ensures.fault)

pub returns-in-Some-clause-fault : goal.returns-in-Some-clause-fault
returns-in-Some-clause-fault c =
    let s = state_in c.args.self.now in
    let place = first_of (first (slot_refusals (table_of c.args.table (templates_in s)))) (ids_fault s) in
    sym c.in-Some.is ∙ c.place_fault.ensures ∙ ap (λ (o : Option Fault). first_of o place) (sym (ap result_err c.in-Ok.is) ∙ c.validate.ensures.fault)

pub returns-in-None-clause-fault : goal.returns-in-None-clause-fault
returns-in-None-clause-fault c =
    let s = state_in c.args.self.now in
    let place = first_of (first (slot_refusals (table_of c.args.table (templates_in s)))) (ids_fault s) in
    sym c.in-None.is ∙ c.place_fault.ensures ∙ ap (λ (o : Option Fault). first_of o place) (sym (ap result_err c.in-Ok.is) ∙ c.validate.ensures.fault)

pub returns-in-None-clause-can : goal.returns-in-None-clause-can
returns-in-None-clause-can c =
    let s = state_in c.args.self.now in
    let none = sym c.place_fault.ensures ∙ c.in-None.is in
    let rule = at-ok c.validate.result c.in-Ok.rule c.in-Ok.is _ c.validate.ensures.rule in
    (ap (λ (r : RuleView). r.id) rule ∙ ap (λ (k : KeptState). k.ids) c.self.view_is, id-left s (no-second _ _ none), c.requires.there, no-first _ _ none)
