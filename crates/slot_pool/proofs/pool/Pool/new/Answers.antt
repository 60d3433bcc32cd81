use Rattle.std.proofs.Common.{[], refl, ◌∙◌, arith, zero-add}
use Rattle.slot_pool.proofs.Grown.{IsSound-with_free, IsSound-none}
use Rattle.slot_pool.proofs.Views.{Pool-same, pool_of-grown}
use Rattle.slot_pool.proofs.pool.Pool.new.Goals as goal

pub invariant_of-result : goal.invariant_of-result
invariant_of-result g c =
    rw (c.add_places-free.ensures.places, c.add_places-free.ensures.first, c.in_ok-places.ensures.items, c.in_ok-places.ensures.len) (IsSound-with_free c.args.n [] _ 0 IsSound-none (omega arith))

pub returns : goal.returns
returns g c =
    rw (c.add_places-free.ensures.places, c.in_ok-places.ensures.items) (pool_of-grown [] _ 0 c.args.n ∙ Pool-same _ _ refl (zero-add c.args.n) refl refl)
