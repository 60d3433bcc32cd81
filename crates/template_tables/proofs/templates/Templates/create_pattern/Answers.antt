use Rattle.std.proofs.Common.{◌≡◌, ◌≤◌, ℕ, List, false, length, sym, subst}
use Rattle.std.specs.List.{list_any}
use Rattle.std.specs.Map.{values_of}
use Rattle.rule_binding.specs.declared.template.PatternTemplate.{PatternTemplate}
use Rattle.template_tables.specs.Refusals.{is_without}
use Rattle.template_tables.proofs.Closed.{named_with_pattern, few_pushed}
use Rattle.template_tables.proofs.templates.Templates.create_pattern.Goals as goal
use Rattle.template_tables.proofs.templates.Templates.create_pattern.Goals.{in-Ok, in-Err}

pub invariant_of-self : goal.invariant_of-self
invariant_of-self c =
    let kept = c.self.invariant in
    let few = c.id_fault.ensures.few c.in_default-id_fault.is in
    let named : List (ℕ × PatternTemplate) → Type 0 = λ l. list_any (is_without l c.self.inside.actions.entries) (values_of c.self.inside.tables.entries) ≡ false in
    elim c.match-insert.branch [
      | in-Ok w ↦ record {
        few_patterns = few_pushed c.self.inside.patterns.entries (c.id_for-id.result, c.pattern_template.result) _ w.in-Ok.ensures.added few;
        few_actions = kept.few_actions;
        few_tables = kept.few_tables;
        named = subst named (sym w.in-Ok.ensures.added)
            (named_with_pattern c.self.inside.patterns.entries c.self.inside.actions.entries (values_of c.self.inside.tables.entries) kept.named _);
      }
      | in-Err w ↦ record {
        few_patterns = subst (λ (l : List (ℕ × PatternTemplate)). length l ≤ 64) (sym w.in-Err.ensures.stays) kept.few_patterns;
        few_actions = kept.few_actions;
        few_tables = kept.few_tables;
        named = subst named (sym w.in-Err.ensures.stays) kept.named;
      }
    ]
