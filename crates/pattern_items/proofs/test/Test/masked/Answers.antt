use Rattle.std.proofs.Common.{subst, ◌∙◌}
use Rattle.pattern_items.specs.Rising.{AllRise}
use Rattle.pattern_items.proofs.ShapeMatches.{shape_accepts}
use Rattle.pattern_items.proofs.test.Test.masked.Goals as goal

pub returns-clause-accepts : goal.returns-clause-accepts
returns-clause-accepts c =
    shape_accepts c.args.self.now c.as_slice-items.result.now c.shape_of.result (c.as_slice-items.ensures.value ∙ c.self.view_is) c.shape_of.ensures c.if-any_has_range.ensures
    (subst AllRise c.self.view_is c.self.invariant)
