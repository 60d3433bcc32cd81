use Rattle.std.proofs.Common.{refl}
use Rattle.slot_pool.specs.Links.{IsChain, IsUnchained}
use Rattle.slot_pool.specs.Pool.{Lives}
use Rattle.slot_pool.specs.Place.{links_from, pool_of}
use Rattle.slot_pool.proofs.LinkOps.{StillHolds-link, Rechains-link}
use Rattle.slot_pool.proofs.Views.{Pool-same}
use Rattle.slot_pool.proofs.pool.Pool.link.Goals as goal

pub invariant_of-self : goal.invariant_of-self
invariant_of-self g c =
    let chain : IsChain (links_from 0 c.self.inside.places.items) c.args.chain.now = rw (← c.self.view_is) at c.requires.chain in
    rw (c.set_link.ensures, c.set_neighbour.ensures) (StillHolds-link c.self.inside.places.items c.self.inside.free c.self.inside.puts c.self.invariant c.args.chain.now c.args.handle chain).sound

pub returns-clause-stays : goal.returns-clause-stays
returns-clause-stays g c =
    let chain : IsChain (links_from 0 c.self.inside.places.items) c.args.chain.now = rw (← c.self.view_is) at c.requires.chain in
    let holds = StillHolds-link c.self.inside.places.items c.self.inside.free c.self.inside.puts c.self.invariant c.args.chain.now c.args.handle chain in
    rw (← c.self.view_is, c.set_link.ensures, c.set_neighbour.ensures) (Pool-same _ _ holds.values holds.size refl refl)

pub returns-clause-chain : goal.returns-clause-chain
returns-clause-chain g c =
    let chain : IsChain (links_from 0 c.self.inside.places.items) c.args.chain.now = rw (← c.self.view_is) at c.requires.chain in
    let lives : Lives (pool_of c.self.inside.places.items c.self.inside.puts) c.args.handle = rw (← c.self.view_is) at c.requires.lives in
    let unchained : IsUnchained (links_from 0 c.self.inside.places.items) c.args.handle = rw (← c.self.view_is) at c.requires.unchained in
    rw (c.set_link.ensures, c.set_neighbour.ensures, c.add.ensures) (Rechains-link c.self.inside.places.items c.self.inside.free c.self.inside.puts c.self.invariant c.args.chain.now c.args.handle chain lives unchained).chain_is

pub returns-clause-members : goal.returns-clause-members
returns-clause-members g c =
    let chain : IsChain (links_from 0 c.self.inside.places.items) c.args.chain.now = rw (← c.self.view_is) at c.requires.chain in
    let lives : Lives (pool_of c.self.inside.places.items c.self.inside.puts) c.args.handle = rw (← c.self.view_is) at c.requires.lives in
    let unchained : IsUnchained (links_from 0 c.self.inside.places.items) c.args.handle = rw (← c.self.view_is) at c.requires.unchained in
    rw (c.set_link.ensures, c.set_neighbour.ensures, c.add.ensures, ← c.self.view_is) (Rechains-link c.self.inside.places.items c.self.inside.free c.self.inside.puts c.self.invariant c.args.chain.now c.args.handle chain lives unchained).members_are

pub returns-clause-others : goal.returns-clause-others
returns-clause-others g c =
    let chain : IsChain (links_from 0 c.self.inside.places.items) c.args.chain.now = rw (← c.self.view_is) at c.requires.chain in
    let lives : Lives (pool_of c.self.inside.places.items c.self.inside.puts) c.args.handle = rw (← c.self.view_is) at c.requires.lives in
    let unchained : IsUnchained (links_from 0 c.self.inside.places.items) c.args.handle = rw (← c.self.view_is) at c.requires.unchained in
    rw (c.set_link.ensures, c.set_neighbour.ensures, ← c.self.view_is) (Rechains-link c.self.inside.places.items c.self.inside.free c.self.inside.puts c.self.invariant c.args.chain.now c.args.handle chain lives unchained).others

pub returns-clause-unchained : goal.returns-clause-unchained
returns-clause-unchained g c =
    let chain : IsChain (links_from 0 c.self.inside.places.items) c.args.chain.now = rw (← c.self.view_is) at c.requires.chain in
    let lives : Lives (pool_of c.self.inside.places.items c.self.inside.puts) c.args.handle = rw (← c.self.view_is) at c.requires.lives in
    let unchained : IsUnchained (links_from 0 c.self.inside.places.items) c.args.handle = rw (← c.self.view_is) at c.requires.unchained in
    rw (c.set_link.ensures, c.set_neighbour.ensures, ← c.self.view_is) (Rechains-link c.self.inside.places.items c.self.inside.free c.self.inside.puts c.self.invariant c.args.chain.now c.args.handle chain lives unchained).unchained
