use Rattle.std.proofs.Common.{◌≡◌, Some, sym, ap, ◌∙◌, arith}
use Rattle.slot_pool.specs.Links.{IsUnchained}
use Rattle.slot_pool.specs.Place.{links_from, value_of}
use Rattle.slot_pool.specs.declared.place.Place.TheVariants.{Free, Filled}
use Rattle.slot_pool.proofs.Places.{within}
use Rattle.slot_pool.proofs.Sound.{lookup-values}
use Rattle.slot_pool.proofs.Writes.{IsSound-freed}
use Rattle.slot_pool.proofs.Views.{held_none, held_some, lives_if_held, without_absent, read_held, pool_of-freed, gone, others-freed}
use Rattle.slot_pool.proofs.pool.Pool.take.Goals as goal

pub returns-then-not-lives-clause-value : goal.returns-then-not-lives-clause-value
returns-then-not-lives-clause-value g c =
    let none = held_none c.self.inside.places.items c.args.handle (rw c.deref.ensures.value at c.if-not-lives.ensures) in
    rw (← c.self.view_is) (sym (lookup-values _ _ _ c.self.invariant c.args.handle ∙ ap value_of none))

pub returns-then-not-lives-clause-after : goal.returns-then-not-lives-clause-after
returns-then-not-lives-clause-after g c =
    let none = held_none c.self.inside.places.items c.args.handle (rw c.deref.ensures.value at c.if-not-lives.ensures) in
    rw (← c.self.view_is) (sym (without_absent _ _ _ c.args.handle c.self.invariant none))

pub returns-then-not-lives-clause-gone : goal.returns-then-not-lives-clause-gone
returns-then-not-lives-clause-gone g c =
    let none = held_none c.self.inside.places.items c.args.handle (rw c.deref.ensures.value at c.if-not-lives.ensures) in
    rw (← c.self.view_is) (lookup-values _ _ _ c.self.invariant c.args.handle ∙ ap value_of none)

pub index_mut-requires : goal.index_mut-requires
index_mut-requires g c =
    let held = held_some c.self.inside.places.items c.args.handle (rw c.deref.ensures.value at c.if-not-lives.ensures) in
    omega (arith, within c.self.inside.places.items c.args.handle.number c.args.handle.place held.0 held.1)

pub invariant_of-self : goal.invariant_of-self
invariant_of-self g c =
    let held = held_some c.self.inside.places.items c.args.handle (rw c.deref.ensures.value at c.if-not-lives.ensures) in
    rw c.replace.ensures.after (IsSound-freed _ _ _ c.self.invariant c.args.handle held.0 held.1)

pub unreachable-requires : goal.unreachable-requires
unreachable-requires g c =
    let held = held_some c.self.inside.places.items c.args.handle (rw c.deref.ensures.value at c.if-not-lives.ensures) in
    let place = read_held _ c.args.handle held.0 _ held.1 c.index_mut.ensures.value in
    let same : Filled held.0 ≡ Free c.in-Free.field-0 = sym place ∙ sym c.replace.ensures.value ∙ c.in-Free.is in
    cc

pub returns-clause-value : goal.returns-clause-value
returns-clause-value g c =
    let held = held_some c.self.inside.places.items c.args.handle (rw c.deref.ensures.value at c.if-not-lives.ensures) in
    let place = read_held _ c.args.handle held.0 _ held.1 c.index_mut.ensures.value in
    let same : Filled held.0 ≡ Filled c.in-Filled.held = sym place ∙ sym c.replace.ensures.value ∙ c.in-Filled.is in
    let one : held.0 ≡ c.in-Filled.held = cc in
    rw (← c.self.view_is) (sym (lookup-values _ _ _ c.self.invariant c.args.handle ∙ ap value_of held.1 ∙ ap (λ h. Some h.value) one))

pub returns-clause-after : goal.returns-clause-after
returns-clause-after g c =
    let held = held_some c.self.inside.places.items c.args.handle (rw c.deref.ensures.value at c.if-not-lives.ensures) in
    let lives = lives_if_held _ _ _ c.args.handle c.self.invariant (rw c.deref.ensures.value at c.if-not-lives.ensures) in
    let unchained : IsUnchained (links_from 0 c.self.inside.places.items) c.args.handle = (rw (← c.self.view_is) at c.requires) lives in
    rw (← c.self.view_is, c.replace.ensures.after) (pool_of-freed _ _ _ c.args.handle held.0 c.self.invariant held.1 unchained)

pub returns-clause-gone : goal.returns-clause-gone
returns-clause-gone g c =
    let held = held_some c.self.inside.places.items c.args.handle (rw c.deref.ensures.value at c.if-not-lives.ensures) in
    rw c.replace.ensures.after (gone _ _ _ c.args.handle held.0 c.self.invariant held.1)

pub returns-clause-others : goal.returns-clause-others
returns-clause-others g c =
    let held = held_some c.self.inside.places.items c.args.handle (rw c.deref.ensures.value at c.if-not-lives.ensures) in
    let lives = lives_if_held _ _ _ c.args.handle c.self.invariant (rw c.deref.ensures.value at c.if-not-lives.ensures) in
    let unchained : IsUnchained (links_from 0 c.self.inside.places.items) c.args.handle = (rw (← c.self.view_is) at c.requires) lives in
    rw (← c.self.view_is, c.replace.ensures.after) (others-freed _ _ _ c.args.handle held.0 c.self.invariant held.1 unchained)
