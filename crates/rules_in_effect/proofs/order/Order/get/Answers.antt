use Rattle.std.proofs.Common.{sym, ap, ◌∙◌, subst, IsSome}
use Rattle.std.specs.List.{slice_get}
use Rattle.rules_in_effect.specs.Order.{OrderView, under}
use Rattle.rules_in_effect.specs.OrderInside.{lodged}
use Rattle.rules_in_effect.proofs.Ordered.{lies_under}
use Rattle.rules_in_effect.proofs.order.Order.get.Goals as goal

pub returns : goal.returns
returns c =
    let there = lies_under c.self.inside.pool c.self.inside.chain c.args.handle c.self.inside.len c.self.inside.capacity c.self.invariant
    (subst (λ (v : OrderView). IsSome (under c.args.handle v.kept)) (sym c.self.view_is) c.requires) in
    let one = c.lodged_in.ensures ∙ ap lodged there.found in
    c.first.ensures.value ∙ ap (λ xs. slice_get xs 0) one ∙ sym there.is ∙ ap (λ (v : OrderView). under c.args.handle v.kept) c.self.view_is
