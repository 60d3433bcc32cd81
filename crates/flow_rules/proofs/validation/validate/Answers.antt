use Rattle.std.proofs.Common.{List, [], refl, sym, ◌∙◌, subst, arith}
use Rattle.flow_actions.specs.declared.action.Action.{Action}
use Rattle.flow_rules.specs.Valid.{IsValid}
use Rattle.flow_rules.proofs.Validity.{IsValid-clear, one_fate}
use Rattle.flow_rules.proofs.validation.validate.Goals as goal

pub invariant_of-result : goal.invariant_of-result
invariant_of-result g c =
    let list = c.as_slice-2.result.now in
    let spec = c.args.spec_in.now in
    let known = g.N.Known.kinds c.args.known.now in
    let none = sym c.action_fault.ensures.first ∙ c.in_default-action_fault.is in
    let one = one_fate c.args.limits.now.rxq known c.as_slice.result.now spec.attr.group 0 [] list none in
    let at_slice = IsValid-clear spec.attr list (sym c.attr_fault.ensures ∙ c.in_default.is) (omega arith)
    (c.action_fault.ensures.values c.in_default-action_fault.is) (omega (arith, one)) in
    (subst (λ (list : List Action). IsValid spec.attr.group spec.attr.priority list) (c.as_slice-2.ensures.value ∙ sym c.copy_of.ensures) at_slice, refl)
