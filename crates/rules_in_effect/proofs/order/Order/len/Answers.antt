use Rattle.std.proofs.Common.{length, sym, ap, ◌∙◌}
use Rattle.slot_pool.specs.Links.{members}
use Rattle.slot_pool.specs.Pool.{get}
use Rattle.rules_in_effect.specs.Order.{OrderView}
use Rattle.rules_in_effect.proofs.Kept.{length-kept}
use Rattle.rules_in_effect.proofs.order.Order.len.Goals as goal

pub returns : goal.returns
returns c =
    let order = c.self.invariant in
    let handles = members c.self.inside.pool.links c.self.inside.chain in
    sym (length-kept (get c.self.inside.pool) handles order.lodgers ∙ order.number) ∙ ap (λ (v : OrderView). length v.kept) c.self.view_is
