use Rattle.std.proofs.Common.{◌≡◌, Some, None, Contains, refl, sym, ap, ◌∙◌, inl, inr}
use Rattle.slot_pool.specs.Links.{IsChain, members, link_of}
use Rattle.slot_pool.specs.Place.{links_from, held_at, link_in}
use Rattle.slot_pool.proofs.Handles.{same_handle_tells}
use Rattle.slot_pool.proofs.Neighbours.{link_of-links_from}
use Rattle.slot_pool.proofs.Joined.{Joins-linked}
use Rattle.slot_pool.proofs.LinkOps.{StillHolds-unlink, Rechains-unlink}
use Rattle.slot_pool.proofs.Views.{Pool-same}
use Rattle.slot_pool.proofs.pool.Pool.unlink.Goals as goal

pub unreachable-requires : goal.unreachable-requires
unreachable-requires g c =
    let ps = c.self.inside.places.items in
    let chain : IsChain (links_from 0 ps) c.args.chain.now = rw (← c.self.view_is) at c.requires.chain in
    let member : Contains (members (links_from 0 ps) c.args.chain.now) c.args.handle = rw (← c.self.view_is) at c.requires.member in
    let link = Joins-linked (link_of (links_from 0 ps)) None _ None c.args.handle chain.joined member in
    let found : None ≡ link_in (held_at ps c.args.handle) = rw c.deref.ensures.value at c.in_default.ensures in
    let bad = found ∙ sym (link_of-links_from ps c.args.handle) ∙ link.1 in
    cc

pub invariant_of-self : goal.invariant_of-self
invariant_of-self g c =
    let ps = c.self.inside.places.items in
    let chain : IsChain (links_from 0 ps) c.args.chain.now = rw (← c.self.view_is) at c.requires.chain in
    rw (c.set_link.ensures, c.set_neighbour-2.ensures, c.set_neighbour.ensures) (StillHolds-unlink ps c.self.inside.free c.self.inside.puts c.self.invariant c.args.chain.now c.args.handle chain c.in-Some.link).sound

pub returns-clause-stays : goal.returns-clause-stays
returns-clause-stays g c =
    let ps = c.self.inside.places.items in
    let chain : IsChain (links_from 0 ps) c.args.chain.now = rw (← c.self.view_is) at c.requires.chain in
    let holds = StillHolds-unlink ps c.self.inside.free c.self.inside.puts c.self.invariant c.args.chain.now c.args.handle chain c.in-Some.link in
    rw (← c.self.view_is, c.set_link.ensures, c.set_neighbour-2.ensures, c.set_neighbour.ensures) (Pool-same _ _ holds.values holds.size refl refl)

pub returns-clause-chain : goal.returns-clause-chain
returns-clause-chain g c =
    let ps = c.self.inside.places.items in
    let chain : IsChain (links_from 0 ps) c.args.chain.now = rw (← c.self.view_is) at c.requires.chain in
    let member : Contains (members (links_from 0 ps) c.args.chain.now) c.args.handle = rw (← c.self.view_is) at c.requires.member in
    let found : link_in (held_at ps c.args.handle) ≡ Some c.in-Some.link = sym (rw c.deref.ensures.value at c.in-Some.ensures) in
    let after = Rechains-unlink ps c.self.inside.free c.self.inside.puts c.self.invariant c.args.chain.now c.args.handle chain c.in-Some.link member found in
    rw (c.set_link.ensures, c.set_neighbour-2.ensures, c.set_neighbour.ensures, c.remove.ensures) after.0.chain_is

pub returns-clause-members : goal.returns-clause-members
returns-clause-members g c =
    let ps = c.self.inside.places.items in
    let chain : IsChain (links_from 0 ps) c.args.chain.now = rw (← c.self.view_is) at c.requires.chain in
    let member : Contains (members (links_from 0 ps) c.args.chain.now) c.args.handle = rw (← c.self.view_is) at c.requires.member in
    let found : link_in (held_at ps c.args.handle) ≡ Some c.in-Some.link = sym (rw c.deref.ensures.value at c.in-Some.ensures) in
    let after = Rechains-unlink ps c.self.inside.free c.self.inside.puts c.self.invariant c.args.chain.now c.args.handle chain c.in-Some.link member found in
    rw (c.set_link.ensures, c.set_neighbour-2.ensures, c.set_neighbour.ensures, c.remove.ensures, ← c.self.view_is) after.0.members_are

pub returns-clause-others : goal.returns-clause-others
returns-clause-others g c =
    let ps = c.self.inside.places.items in
    let chain : IsChain (links_from 0 ps) c.args.chain.now = rw (← c.self.view_is) at c.requires.chain in
    let member : Contains (members (links_from 0 ps) c.args.chain.now) c.args.handle = rw (← c.self.view_is) at c.requires.member in
    let found : link_in (held_at ps c.args.handle) ≡ Some c.in-Some.link = sym (rw c.deref.ensures.value at c.in-Some.ensures) in
    let after = Rechains-unlink ps c.self.inside.free c.self.inside.puts c.self.invariant c.args.chain.now c.args.handle chain c.in-Some.link member found in
    rw (c.set_link.ensures, c.set_neighbour-2.ensures, c.set_neighbour.ensures, ← c.self.view_is) after.0.others

pub returns-clause-unlinked : goal.returns-clause-unlinked
returns-clause-unlinked g c =
    let ps = c.self.inside.places.items in
    let chain : IsChain (links_from 0 ps) c.args.chain.now = rw (← c.self.view_is) at c.requires.chain in
    let member : Contains (members (links_from 0 ps) c.args.chain.now) c.args.handle = rw (← c.self.view_is) at c.requires.member in
    let found : link_in (held_at ps c.args.handle) ≡ Some c.in-Some.link = sym (rw c.deref.ensures.value at c.in-Some.ensures) in
    let after = Rechains-unlink ps c.self.inside.free c.self.inside.puts c.self.invariant c.args.chain.now c.args.handle chain c.in-Some.link member found in
    rw (c.set_link.ensures, c.set_neighbour-2.ensures, c.set_neighbour.ensures) after.1

pub returns-clause-unchained : goal.returns-clause-unchained
returns-clause-unchained g c =
    let ps = c.self.inside.places.items in
    let chain : IsChain (links_from 0 ps) c.args.chain.now = rw (← c.self.view_is) at c.requires.chain in
    let member : Contains (members (links_from 0 ps) c.args.chain.now) c.args.handle = rw (← c.self.view_is) at c.requires.member in
    let found : link_in (held_at ps c.args.handle) ≡ Some c.in-Some.link = sym (rw c.deref.ensures.value at c.in-Some.ensures) in
    let after = Rechains-unlink ps c.self.inside.free c.self.inside.puts c.self.invariant c.args.chain.now c.args.handle chain c.in-Some.link member found in
    rw (c.set_link.ensures, c.set_neighbour-2.ensures, c.set_neighbour.ensures, ← c.self.view_is) (λ other none. elim (same_handle_tells other c.args.handle) [
      | inl same ↦ ap (link_of _) same.1 ∙ after.1
      | inr differs ↦ after.0.unchained other differs.1 none
    ])
