use Rattle.std.proofs.Common.{◌≡◌, ◌∙◌, ℕ, List, false, None, sym, subst, arith}
use Rattle.std.specs.List.{list_any}
use Rattle.std.specs.Map.{values_of}
use Rattle.flow_rules.specs.Faults.{first}
use Rattle.rule_binding.specs.declared.template.ActionsTemplate.{ActionsTemplate}
use Rattle.template_tables.specs.Refusals.{is_without, actions_end_refusals}
use Rattle.template_tables.specs.TemplatesView.{TemplatesView}
use Rattle.template_tables.proofs.Closed.{named_without_actions, no_second}
use Rattle.template_tables.proofs.templates.Templates.destroy_actions.Goals as goal

pub invariant_of-self : goal.invariant_of-self
invariant_of-self c =
    let kept = c.self.invariant in
    let named : List (ℕ × ActionsTemplate) → Type 0 = λ l. list_any (is_without c.self.inside.patterns.entries l) (values_of c.self.inside.tables.entries) ≡ false in
    let none = subst (λ (t : TemplatesView). first (actions_end_refusals t c.args.id) ≡ None) (sym c.self.view_is) (sym c.destroy_actions_fault.ensures ∙ c.in_default.is) in
    record {
      few_actions = omega (arith, kept.few_actions, c.shift_remove-gone.ensures.len);
      few_patterns = kept.few_patterns;
      few_tables = kept.few_tables;
      named = subst named (sym c.shift_remove-gone.ensures.entries)
          (named_without_actions c.self.inside.patterns.entries c.self.inside.actions.entries (values_of c.self.inside.tables.entries) kept.named c.args.id
          (no_second _ _ _ _ none));
    }
