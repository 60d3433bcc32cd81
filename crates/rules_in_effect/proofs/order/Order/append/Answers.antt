use Rattle.std.proofs.Common.{◌≡◌, ◌++◌, ◌∷◌, ◌+◌, [], None, sym, ap, ◌∙◌, subst, ◌-◌, ◌^◌, ◌≤◌, min, arith}
use Rattle.slot_pool.specs.Links.{IsChain, members}
use Rattle.slot_pool.specs.Pool.{Pool, get}
use Rattle.rules_in_effect.specs.declared.in_effect.InEffect.{InEffect}
use Rattle.rules_in_effect.specs.Order.{OrderView, under}
use Rattle.rules_in_effect.proofs.Kept.{length-kept}
use Rattle.rules_in_effect.proofs.Ordered.{Keeps, Keeps-appended, kept_by, place_is_free, room-appended}
use Rattle.rules_in_effect.proofs.order.Order.append.Goals as goal

pub link-requires-clause-chain : goal.link-requires-clause-chain
link-requires-clause-chain c =
    subst (λ l. IsChain l c.self.inside.chain) (ap (λ (p : Pool InEffect). p.links) (sym c.lodge-handle.ensures.put)) c.self.invariant.chained

-- what the order keeps then
after : (c : goal.After-self-1) → Keeps c.link.new.self c.link.new.chain (c.self.inside.len + 1) c.self.inside.capacity (kept_by c.self.inside.pool c.self.inside.chain ++ (c.lodge-handle.result, c.args.entry) ∷ [])
    × (under c.lodge-handle.result (kept_by c.self.inside.pool c.self.inside.chain) ≡ None)
after c =
    Keeps-appended c.self.inside.pool c.lodge-handle.new.pool c.link.new.self c.self.inside.chain c.link.new.chain c.lodge-handle.result c.args.entry c.self.inside.len c.self.inside.capacity
    c.self.invariant
    (place_is_free c.self.inside.len c.self.inside.capacity c.self.inside.pool.puts (subst (λ (v : OrderView). 1 ≤ v.room) (sym c.self.view_is) c.requires))
    c.lodge-handle.ensures
    c.link.ensures.stays c.link.ensures.chain c.link.ensures.members

pub invariant_of-self : goal.invariant_of-self
invariant_of-self c = (after c).0.order

pub returns-clause-kept : goal.returns-clause-kept
returns-clause-kept c = (after c).0.is ∙ ap (λ (v : OrderView). v.kept ++ (c.lodge-handle.result, c.args.entry) ∷ []) c.self.view_is

pub returns-clause-fresh : goal.returns-clause-fresh
returns-clause-fresh c = subst (λ (v : OrderView). under c.lodge-handle.result v.kept ≡ None) c.self.view_is (after c).1

pub returns-clause-few : goal.returns-clause-few
returns-clause-few c =
    let order = (after c).0.order in
    omega (arith, length-kept (get c.link.new.self) (members c.link.new.self.links c.link.new.chain) order.lodgers, order.number, order.within, order.small)

pub returns-clause-left : goal.returns-clause-left
returns-clause-left c =
    let room : 1 ≤ min (c.self.inside.capacity - c.self.inside.len) (2 ^ 64 - 1 - c.self.inside.pool.puts) = subst (λ (v : OrderView). 1 ≤ v.room) (sym c.self.view_is) c.requires in
    let puts : c.link.new.self.puts ≡ c.self.inside.pool.puts + 1 = ap (λ (p : Pool InEffect). p.puts) c.link.ensures.stays ∙ ap (λ (p : Pool InEffect). p.puts) c.lodge-handle.ensures.put in
    ap (λ n. min (c.self.inside.capacity - (c.self.inside.len + 1)) (2 ^ 64 - 1 - n) + 1) puts
    ∙ room-appended c.self.inside.len c.self.inside.capacity c.self.inside.pool.puts room
    ∙ ap (λ (v : OrderView). v.room) c.self.view_is
