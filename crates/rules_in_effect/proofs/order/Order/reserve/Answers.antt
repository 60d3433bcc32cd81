use Rattle.std.proofs.Common.{◌+◌, sym, ap, ◌∙◌, subst}
use Rattle.rules_in_effect.specs.Order.{OrderView}
use Rattle.rules_in_effect.specs.OrderInside.{IsOrder}
use Rattle.rules_in_effect.proofs.Ordered.{Keeps, Keeps-grown, kept_by}
use Rattle.rules_in_effect.proofs.order.Order.reserve.Goals as goal

pub invariant_of-self : goal.invariant_of-self
invariant_of-self c =
    subst (λ pool. IsOrder pool c.self.inside.chain c.self.inside.len c.self.inside.capacity) (sym c.in_err-grow.ensures.err) c.self.invariant

pub returns-in_err-grow-clause-same : goal.returns-in_err-grow-clause-same
returns-in_err-grow-clause-same c =
    ap (λ pool. kept_by pool c.self.inside.chain) c.in_err-grow.ensures.err ∙ ap (λ (v : OrderView). v.kept) c.self.view_is

-- what the order keeps then
after : (c : goal.After-self-1) → Keeps c.grow.new.self c.self.inside.chain c.self.inside.len (c.self.inside.capacity + c.in_ok-places.places) (kept_by c.self.inside.pool c.self.inside.chain)
after c =
    Keeps-grown c.self.inside.pool c.grow.new.self c.self.inside.chain c.self.inside.len c.self.inside.capacity c.in_ok-places.places c.self.invariant c.in_ok-places.ensures.most c.in_ok-grow.ensures.ok

pub invariant_of-self-2 : goal.invariant_of-self-2
invariant_of-self-2 c = (after c).order

pub returns-clause-same : goal.returns-clause-same
returns-clause-same c = (after c).is ∙ ap (λ (v : OrderView). v.kept) c.self.view_is
