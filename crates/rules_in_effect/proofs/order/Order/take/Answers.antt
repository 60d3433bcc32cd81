use Rattle.std.proofs.Common.{◌≡◌, ◌-◌, ◌^◌, ◌≤◌, min, Some, sym, ap, ◌∙◌, subst, refl, IsSome}
use Rattle.slot_pool.specs.Pool.{Pool, get}
use Rattle.rules_in_effect.specs.declared.in_effect.InEffect.{InEffect}
use Rattle.rules_in_effect.specs.Order.{OrderView, but, under}
use Rattle.rules_in_effect.proofs.Ordered.{Keeps, Keeps-taken, LiesUnder, kept_by, lies_under, room-taken}
use Rattle.rules_in_effect.proofs.order.Order.take.Goals as goal

pub unlink-requires-clause-member : goal.unlink-requires-clause-member
unlink-requires-clause-member c =
    let there = lies_under c.self.inside.pool c.self.inside.chain c.args.handle c.self.inside.len c.self.inside.capacity c.self.invariant
    (subst (λ (v : OrderView). IsSome (under c.args.handle v.kept)) (sym c.self.view_is) c.requires) in
    there.member

pub unwrap-requires : goal.unwrap-requires
unwrap-requires c =
    let there = lies_under c.self.inside.pool c.self.inside.chain c.args.handle c.self.inside.len c.self.inside.capacity c.self.invariant
    (subst (λ (v : OrderView). IsSome (under c.args.handle v.kept)) (sym c.self.view_is) c.requires) in
    let value = c.take.ensures.value ∙ ap (λ (p : Pool InEffect). get p c.args.handle) c.unlink.ensures.stays ∙ there.found in
    subst IsSome (sym value) refl

after : (c : goal.After-unwrap) → LiesUnder c.self.inside.pool c.self.inside.chain c.args.handle
after c =
    lies_under c.self.inside.pool c.self.inside.chain c.args.handle c.self.inside.len c.self.inside.capacity c.self.invariant
    (subst (λ (v : OrderView). IsSome (under c.args.handle v.kept)) (sym c.self.view_is) c.requires)

-- what the order keeps then
left : (c : goal.After-unwrap) → Keeps c.take.new.self c.unlink.new.chain (c.self.inside.len - 1) c.self.inside.capacity (but c.args.handle (kept_by c.self.inside.pool c.self.inside.chain))
left c =
    Keeps-taken c.self.inside.pool c.unlink.new.self c.take.new.self c.self.inside.chain c.unlink.new.chain c.args.handle (after c).entry c.self.inside.len c.self.inside.capacity c.self.invariant (after c).is
    c.unlink.ensures.stays c.unlink.ensures.chain c.unlink.ensures.members c.take.ensures.after c.take.ensures.others

pub invariant_of-self : goal.invariant_of-self
invariant_of-self c = (left c).order

pub returns-clause-entry : goal.returns-clause-entry
returns-clause-entry c =
    let there = after c in
    let one : Some c.unwrap.result ≡ Some there.entry = sym c.unwrap.ensures ∙ c.take.ensures.value ∙ ap (λ (p : Pool InEffect). get p c.args.handle) c.unlink.ensures.stays ∙ there.found in
    subst (λ (v : OrderView). under c.args.handle v.kept ≡ Some c.unwrap.result) c.self.view_is (there.is ∙ sym one)

pub returns-clause-others : goal.returns-clause-others
returns-clause-others c = (left c).is ∙ ap (λ (v : OrderView). but c.args.handle v.kept) c.self.view_is

pub returns-clause-room : goal.returns-clause-room
returns-clause-room c =
    let puts : c.take.new.self.puts ≡ c.self.inside.pool.puts = ap (λ (p : Pool InEffect). p.puts) c.take.ensures.after ∙ ap (λ (p : Pool InEffect). p.puts) c.unlink.ensures.stays in
    let more : min (c.self.inside.capacity - c.self.inside.len) (2 ^ 64 - 1 - c.self.inside.pool.puts) ≤ min (c.self.inside.capacity - (c.self.inside.len - 1)) (2 ^ 64 - 1 - c.take.new.self.puts)
    = subst (λ n. min (c.self.inside.capacity - c.self.inside.len) (2 ^ 64 - 1 - c.self.inside.pool.puts) ≤ min (c.self.inside.capacity - (c.self.inside.len - 1)) (2 ^ 64 - 1 - n)) (sym puts)
    (room-taken c.self.inside.len c.self.inside.capacity c.self.inside.pool.puts) in
    subst (λ (v : OrderView). v.room ≤ min (c.self.inside.capacity - (c.self.inside.len - 1)) (2 ^ 64 - 1 - c.take.new.self.puts)) c.self.view_is more
