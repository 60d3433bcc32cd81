use Rattle.std.proofs.Common.{◌≡◌, ◌+◌, Option, None, sym, ap, ◌∙◌, subst, IfSome, slice_get, Contains}
use Rattle.slot_pool.specs.declared.handle.Handle.{Handle}
use Rattle.slot_pool.specs.Links.{IsChain, members, link_of, next_of}
use Rattle.slot_pool.specs.Pool.{Lives}
use Rattle.slot_pool.specs.Place.{links_from, pool_of, held_at, link_in}
use Rattle.slot_pool.proofs.Neighbours.{link_of-links_from}
use Rattle.slot_pool.proofs.Walks.{next_of-joined, Contains-slice_get, place_lives, place_member}
use Rattle.slot_pool.proofs.pool.Pool.next.Goals as goal

pub returns-clause-value : goal.returns-clause-value
returns-clause-value g c =
    let ps = c.self.inside.places.items in
    let chain : IsChain (links_from 0 ps) c.args.chain.now = rw (← c.self.view_is) at c.requires.chain in
    let is : c.behind.result ≡ next_of (link_in (held_at ps c.args.handle)) = rw c.deref.ensures.value at c.behind.ensures in
    rw (← c.self.view_is) (λ place at.
    is ∙ ap next_of (sym (link_of-links_from ps c.args.handle)) ∙ next_of-joined (link_of (links_from 0 ps)) None _ place c.args.handle chain.joined at)

pub returns-clause-lives : goal.returns-clause-lives
returns-clause-lives g c =
    let ps = c.self.inside.places.items in
    let chain : IsChain (links_from 0 ps) c.args.chain.now = rw (← c.self.view_is) at c.requires.chain in
    let member : Contains (members (links_from 0 ps) c.args.chain.now) c.args.handle = rw (← c.self.view_is) at c.requires.member in
    let at = Contains-slice_get _ c.args.handle member in
    let is : c.behind.result ≡ next_of (link_in (held_at ps c.args.handle)) = rw c.deref.ensures.value at c.behind.ensures in
    let next : c.behind.result ≡ slice_get (members (links_from 0 ps) c.args.chain.now) (at.0 + 1)
    = is ∙ ap next_of (sym (link_of-links_from ps c.args.handle)) ∙ next_of-joined (link_of (links_from 0 ps)) None _ at.0 c.args.handle chain.joined at.1 in
    rw (← c.self.view_is) (subst (λ (o : Option Handle). IfSome o (λ q. Lives (pool_of ps c.self.inside.puts) q)) (sym next)
    (place_lives ps c.self.inside.free c.self.inside.puts c.self.invariant c.args.chain.now (at.0 + 1) chain))

pub returns-clause-member : goal.returns-clause-member
returns-clause-member g c =
    let ps = c.self.inside.places.items in
    let chain : IsChain (links_from 0 ps) c.args.chain.now = rw (← c.self.view_is) at c.requires.chain in
    let member : Contains (members (links_from 0 ps) c.args.chain.now) c.args.handle = rw (← c.self.view_is) at c.requires.member in
    let at = Contains-slice_get _ c.args.handle member in
    let is : c.behind.result ≡ next_of (link_in (held_at ps c.args.handle)) = rw c.deref.ensures.value at c.behind.ensures in
    let next : c.behind.result ≡ slice_get (members (links_from 0 ps) c.args.chain.now) (at.0 + 1)
    = is ∙ ap next_of (sym (link_of-links_from ps c.args.handle)) ∙ next_of-joined (link_of (links_from 0 ps)) None _ at.0 c.args.handle chain.joined at.1 in
    rw (← c.self.view_is) (subst (λ (o : Option Handle). IfSome o (Contains (members (links_from 0 ps) c.args.chain.now))) (sym next) (place_member _ (at.0 + 1)))
