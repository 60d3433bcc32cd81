use Rattle.std.proofs.Common.{◌≡◌, ◌≤◌, ℕ, List, false, length, sym, subst}
use Rattle.std.specs.List.{list_any}
use Rattle.std.specs.Map.{values_of}
use Rattle.rule_binding.specs.declared.template.ActionsTemplate.{ActionsTemplate}
use Rattle.template_tables.specs.Refusals.{is_without}
use Rattle.template_tables.proofs.Closed.{named_with_actions, few_pushed}
use Rattle.template_tables.proofs.templates.Templates.create_actions.Goals as goal
use Rattle.template_tables.proofs.templates.Templates.create_actions.Goals.{in-Ok, in-Err}

pub invariant_of-self : goal.invariant_of-self
invariant_of-self c =
    let kept = c.self.invariant in
    let few = c.id_fault.ensures.few c.in_default-id_fault.is in
    let named : List (ℕ × ActionsTemplate) → Type 0 = λ l. list_any (is_without c.self.inside.patterns.entries l) (values_of c.self.inside.tables.entries) ≡ false in
    elim c.match-insert.branch [
      | in-Ok w ↦ record {
        few_actions = few_pushed c.self.inside.actions.entries (c.id_for-id.result, c.actions_template.result) _ w.in-Ok.ensures.added few;
        few_patterns = kept.few_patterns;
        few_tables = kept.few_tables;
        named = subst named (sym w.in-Ok.ensures.added)
            (named_with_actions c.self.inside.patterns.entries c.self.inside.actions.entries (values_of c.self.inside.tables.entries) kept.named _);
      }
      | in-Err w ↦ record {
        few_actions = subst (λ (l : List (ℕ × ActionsTemplate)). length l ≤ 64) (sym w.in-Err.ensures.stays) kept.few_actions;
        few_patterns = kept.few_patterns;
        few_tables = kept.few_tables;
        named = subst named (sym w.in-Err.ensures.stays) kept.named;
      }
    ]
