use Rattle.std.proofs.Common.{◌∙◌, ap, arith}
use Rattle.template_tables.specs.Refusals.{is_without}
use Rattle.template_tables.proofs.Closed.{named_written, freed_keeps}
use Rattle.template_tables.proofs.templates.Templates.free_slot.Goals as goal

pub invariant_of-self-2 : goal.invariant_of-self-2
invariant_of-self-2 c =
    let kept = c.self.invariant in
    let patterns = c.self.inside.patterns.entries in
    let list = c.self.inside.actions.entries in
    let written = c.get_mut.follows.holds c.free.new.self in
    record {
      few_patterns = kept.few_patterns;
      few_actions = kept.few_actions;
      few_tables = omega (arith, kept.few_tables, written.2);
      named = named_written patterns list c.self.inside.tables.entries _ c.args.table c.in_ok-table.table.now c.free.new.self kept.named c.in_ok-table.ensures.value
          (ap (is_without patterns list) c.free.ensures.freed ∙ freed_keeps patterns list c.args.id c.in_ok-table.table.now) written.0;
    }
