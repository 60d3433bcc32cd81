use Rattle.std.proofs.Common.{refl, sym, ap, ◌∙◌}
use Rattle.slot_pool.specs.Place.{value_of}
use Rattle.slot_pool.proofs.Sound.{lookup-values}
use Rattle.slot_pool.proofs.Views.{held_none, lives_if_held}
use Rattle.slot_pool.proofs.pool.Pool.get_mut.Goals as goal

pub returns-then-not-lives : goal.returns-then-not-lives
returns-then-not-lives g c =
    let none = held_none c.self.inside.places.items c.args.handle (rw c.deref.ensures.value at c.if-not-lives.ensures) in
    (refl, record { writes_back = tt; value = rw (← c.self.view_is) (sym (lookup-values _ _ _ c.self.invariant c.args.handle ∙ ap value_of none)) })

pub value_mut-requires : goal.value_mut-requires
value_mut-requires g c = rw (← c.self.view_is) (lives_if_held c.self.inside.places.items c.self.inside.free c.self.inside.puts c.args.handle c.self.invariant (rw c.deref.ensures.value at c.if-not-lives.ensures))
