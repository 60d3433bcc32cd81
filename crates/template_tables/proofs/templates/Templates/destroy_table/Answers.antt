use Rattle.std.proofs.Common.{◌≡◌, false, nat_eq, sym, subst, arith}
use Rattle.std.specs.List.{list_any}
use Rattle.std.specs.Map.{values_of}
use Rattle.template_tables.specs.Refusals.{is_without}
use Rattle.template_tables.proofs.Closed.{none_removed}
use Rattle.template_tables.proofs.templates.Templates.destroy_table.Goals as goal

pub invariant_of-self : goal.invariant_of-self
invariant_of-self c =
    let kept = c.self.invariant in
    let lacks = is_without c.self.inside.patterns.entries c.self.inside.actions.entries in
    record {
      few_patterns = kept.few_patterns;
      few_actions = kept.few_actions;
      few_tables = omega (arith, kept.few_tables, c.shift_remove-gone.ensures.len);
      named = subst (λ l. list_any lacks (values_of l) ≡ false) (sym c.shift_remove-gone.ensures.entries)
          (none_removed lacks (nat_eq c.args.id) c.self.inside.tables.entries kept.named);
    }
