use Rattle.std.proofs.Common.{◌≡◌, Some, refl, arith, ap, ◌∙◌}
use Rattle.slot_pool.specs.Place.{value_of}
use Rattle.slot_pool.proofs.Places.{within}
use Rattle.slot_pool.proofs.Sound.{lookup-values}
use Rattle.slot_pool.proofs.Writes.{IsSound-refilled}
use Rattle.slot_pool.proofs.WithLink.{held_from_lives}
use Rattle.slot_pool.proofs.Views.{read_held, pool_of-refilled}
use Rattle.slot_pool.proofs.pool.Pool.value_mut.Goals as goal

pub index_mut-requires : goal.index_mut-requires
index_mut-requires g c =
    let held = held_from_lives _ _ _ c.args.handle c.self.invariant (rw (← c.self.view_is) at c.requires) in
    omega (arith, within c.self.inside.places.items c.args.handle.number c.args.handle.place held.0 held.1)

pub value_mut-requires : goal.value_mut-requires
value_mut-requires g c =
    let held = held_from_lives _ _ _ c.args.handle c.self.invariant (rw (← c.self.view_is) at c.requires) in
    rw (read_held _ c.args.handle held.0 _ held.1 c.index_mut.ensures.value) refl

pub invariant_of-self-lent : goal.invariant_of-self-lent
invariant_of-self-lent g c w =
    let held = held_from_lives _ _ _ c.args.handle c.self.invariant (rw (← c.self.view_is) at c.requires) in
    rw (read_held _ c.args.handle held.0 _ held.1 c.index_mut.ensures.value) (IsSound-refilled _ _ _ c.self.invariant c.args.handle held.0 held.1 (record held.0 { value = w }) refl)

pub returns : goal.returns
returns g c =
    let held = held_from_lives _ _ _ c.args.handle c.self.invariant (rw (← c.self.view_is) at c.requires) in
    let place = read_held _ c.args.handle held.0 _ held.1 c.index_mut.ensures.value in
    let value : Some held.0.value ≡ Some c.value_mut.result.now = rw place at c.value_mut.ensures.value in (
      (refl, λ w. rw (← c.self.view_is, place) (pool_of-refilled _ _ _ c.args.handle held.0 w c.self.invariant held.1)),
      record { writes_back = tt; value = rw (← c.self.view_is) (lookup-values _ _ _ c.self.invariant c.args.handle ∙ ap value_of held.1 ∙ value) },
    )
