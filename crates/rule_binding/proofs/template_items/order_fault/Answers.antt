use Rattle.std.proofs.Common.{sym, ap, ◌∙◌, Some, map}
use Rattle.std.specs.Option.{option_map}
use Rattle.std.specs.Result.{result_err}
use Rattle.rule_binding.specs.Bare.{bare, template_fault}
use Rattle.rule_binding.proofs.Bared.{first_bare}
use Rattle.rule_binding.proofs.template_items.order_fault.Goals as goal

pub returns-in-Ok : goal.returns-in-Ok
returns-in-Ok c =
    ap (option_map template_fault) (sym (ap result_err c.in-Ok.is) ∙ c.compile.ensures.fault)
    ∙ sym (first_bare c.args.pattern.now _ (c.bare_items.ensures ∙ ap (map bare) c.as_slice.ensures.value))

pub returns-in-Err : goal.returns-in-Err
returns-in-Err c =
    ap Some c.template_fault.ensures
    ∙ ap (option_map template_fault) (sym (ap result_err c.in-Err.is) ∙ c.compile.ensures.fault)
    ∙ sym (first_bare c.args.pattern.now _ (c.bare_items.ensures ∙ ap (map bare) c.as_slice.ensures.value))
