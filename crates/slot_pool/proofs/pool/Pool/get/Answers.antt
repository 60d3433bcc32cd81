use Rattle.std.proofs.Common.{◌≡◌, Some, None, sym, ap, ◌∙◌}
use Rattle.slot_pool.specs.Place.{held_at, value_of}
use Rattle.slot_pool.proofs.Sound.{lookup-values}
use Rattle.slot_pool.proofs.pool.Pool.get.Goals as goal

pub returns-in-Some : goal.returns-in-Some
returns-in-Some g c =
    let found : held_at c.self.inside.places.items c.args.handle ≡ Some c.in-Some.held.now = sym (rw c.deref.ensures.value at c.in-Some.ensures) in
    rw (← c.self.view_is) (sym (lookup-values _ _ _ c.self.invariant c.args.handle ∙ ap value_of found))

pub returns-in-None : goal.returns-in-None
returns-in-None g c =
    let found : held_at c.self.inside.places.items c.args.handle ≡ None = sym (rw c.deref.ensures.value at c.in-None.ensures) in
    rw (← c.self.view_is) (sym (lookup-values _ _ _ c.self.invariant c.args.handle ∙ ap value_of found))
