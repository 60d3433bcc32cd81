use Rattle.std.proofs.Common.{ap, arith}
use Rattle.template_tables.specs.Refusals.{is_without}
use Rattle.template_tables.proofs.Closed.{named_written}
use Rattle.template_tables.proofs.templates.Templates.settle.Goals as goal

pub invariant_of-self-2 : goal.invariant_of-self-2
invariant_of-self-2 c =
    let kept = c.self.invariant in
    let patterns = c.self.inside.patterns.entries in
    let list = c.self.inside.actions.entries in
    let written = c.get_mut.follows.holds c.settle.new.self in
    record {
      few_patterns = kept.few_patterns;
      few_actions = kept.few_actions;
      few_tables = omega (arith, kept.few_tables, written.2);
      named = named_written patterns list c.self.inside.tables.entries _ c.args.table c.in-Some.table.now c.settle.new.self kept.named c.in-Some.ensures.value
          (ap (is_without patterns list) c.settle.ensures) written.0;
    }
