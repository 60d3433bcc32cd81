use Rattle.std.proofs.Common.{sym, subst, take, add-one, ◌≡◌}
use Rattle.history_text.specs.Forms.{form, holes}
use Rattle.history_text.proofs.Weaving.{holes-next}
use Rattle.history_text.proofs.form.first_hole.Goals as goal

pub loop-place-preserved : goal.loop-place-preserved
loop-place-preserved c =
    subst (λ k. holes (form (take k c.args.pattern.now)) ≡ 0) (sym (add-one c.loop-place.place))
    (holes-next _ _ _ c.loop-place-test.true c.if-pattern-place-eq48.false c.loop-place.invariant)
