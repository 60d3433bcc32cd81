use Rattle.std.proofs.Common.{◌≡◌, ◌+◌, ◌≤◌, ◌^◌, length, vec_len, arith}
use Rattle.slot_pool.proofs.Grown.{IsSound-with_free}
use Rattle.slot_pool.proofs.Views.{pool_of-grown}
use Rattle.slot_pool.proofs.pool.Pool.grow.Goals as goal

pub add_places-self-inside-requires-clause-small : goal.add_places-self-inside-requires-clause-small
add_places-self-inside-requires-clause-small g c =
    let bound : length c.self.inside.places.items + c.args.more ≤ 2 ^ 31 = rw (← c.self.view_is) at c.requires in
    let len : vec_len c.self.inside.places ≡ length c.self.inside.places.items = omega (arith, c.self.inside.places.ok) in
    omega (arith, c.reserve.ensures.len)

pub invariant_of-self-2 : goal.invariant_of-self-2
invariant_of-self-2 g c =
    let bound : length c.self.inside.places.items + c.args.more ≤ 2 ^ 31 = rw (← c.self.view_is) at c.requires in
    let len : vec_len c.self.inside.places ≡ length c.self.inside.places.items = omega (arith, c.self.inside.places.ok) in
    rw (c.add_places-self-inside.ensures.places, c.add_places-self-inside.ensures.first, c.reserve.ensures.items, c.reserve.ensures.len, len) (IsSound-with_free c.args.more c.self.inside.places.items c.self.inside.free c.self.inside.puts c.self.invariant (omega arith))

pub returns-clause-ok : goal.returns-clause-ok
returns-clause-ok g c =
    rw (c.add_places-self-inside.ensures.places, c.reserve.ensures.items, ← c.self.view_is) (pool_of-grown c.self.inside.places.items c.self.inside.free c.self.inside.puts c.args.more)
