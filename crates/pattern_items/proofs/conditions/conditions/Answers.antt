use Rattle.std.proofs.Common.{◌∙◌, arith}
use Rattle.pattern_items.proofs.Asked.{conditions_same, conditions_more}
use Rattle.pattern_items.proofs.conditions.conditions.Goals as goal

pub loop-field-preserved-then-condition-eq0 : goal.loop-field-preserved-then-condition-eq0
loop-field-preserved-then-condition-eq0 c =
    (omega arith, conditions_same _ c.loop-field.field _ c.condition-condition.result c.loop-field.invariant.1 c.condition-condition.ensures c.if-condition-eq0.true)

pub loop-field-preserved : goal.loop-field-preserved
loop-field-preserved c = (
  omega (arith, c.push.ensures.len),
  c.push.ensures.items ∙ conditions_more _ c.loop-field.field _ c.condition-condition.result c.loop-field.invariant.1 c.condition-condition.ensures c.if-condition-eq0.false,
)
