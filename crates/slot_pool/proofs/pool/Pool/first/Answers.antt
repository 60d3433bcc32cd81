use Rattle.std.proofs.Common.{◌≡◌, sym, ◌∙◌, subst, IfSome, Contains, slice_get, Option}
use Rattle.slot_pool.specs.declared.handle.Handle.{Handle}
use Rattle.slot_pool.specs.Links.{IsChain, members}
use Rattle.slot_pool.specs.Pool.{Lives}
use Rattle.slot_pool.specs.Place.{links_from, pool_of}
use Rattle.slot_pool.proofs.Walks.{first_or-slice_get, place_lives, place_member}
use Rattle.slot_pool.proofs.pool.Pool.first.Goals as goal

pub returns-clause-value : goal.returns-clause-value
returns-clause-value g c = c.requires.first ∙ first_or-slice_get _

pub returns-clause-lives : goal.returns-clause-lives
returns-clause-lives g c =
    let chain : IsChain (links_from 0 c.self.inside.places.items) c.args.chain.now = rw (← c.self.view_is) at c.requires in
    let first : slice_get (members (links_from 0 c.self.inside.places.items) c.args.chain.now) 0 ≡ c.args.chain.now.first = sym (chain.first ∙ first_or-slice_get _) in
    rw (← c.self.view_is) (subst (λ (o : Option Handle). IfSome o (λ q. Lives (pool_of c.self.inside.places.items c.self.inside.puts) q)) first (place_lives c.self.inside.places.items c.self.inside.free c.self.inside.puts c.self.invariant c.args.chain.now 0 chain))

pub returns-clause-member : goal.returns-clause-member
returns-clause-member g c =
    let first : slice_get (members c.args.self.now.links c.args.chain.now) 0 ≡ c.args.chain.now.first = sym (c.requires.first ∙ first_or-slice_get _) in
    subst (λ (o : Option Handle). IfSome o (Contains (members c.args.self.now.links c.args.chain.now))) first (place_member _ 0)
