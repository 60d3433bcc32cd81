use Rattle.std.proofs.Common.{[], subst, sym, refl, arith, ap, length}
use Rattle.rules_in_effect.specs.OrderInside.{AreLodged, IsOrder}
use Rattle.rules_in_effect.proofs.order.Order.new.Goals as goal

pub invariant_of-result : goal.invariant_of-result
invariant_of-result c =
    subst (λ pool. IsOrder pool c.new.result 0 0) (sym c.empty.ensures) (record {
      chained = c.new.ensures.chain [];
      lodgers = subst (AreLodged _) (sym (c.new.ensures.empty [])) tt;
      number = ap length (c.new.ensures.empty []);
      values = refl;
      size = refl;
      within = omega arith;
      small = omega arith;
    })
