-- What a contract sees of chains: the links of a pool join handles, and a chain is the list of handles that its ends and these links give.
use Rattle.std.specs.Prelude.{◌≡◌, ℕ, zero, suc, List, [], ◌∷◌, length, Option, Some, None, Contains, Bool, not}
use Rattle.std.specs.Map.{lookup}
use Rattle.slot_pool.specs.declared.handle.Handle.{Handle}
use Rattle.slot_pool.specs.declared.chain.Chain.{Chain}
use Rattle.slot_pool.specs.declared.chain.Link.{Link}
use Rattle.slot_pool.specs.Handle.{same_handle}

-- the neighbours of each chained handle
abbrev pub Links : Type 0
Links = List (Handle × Link)

-- the neighbours of a handle, if it is in a chain
abbrev pub link_of : Links → Handle → Option Link
link_of links handle = lookup (same_handle handle) links

-- no chain holds the handle
abbrev pub IsUnchained : Links → Handle → Type 0
IsUnchained links handle = link_of links handle ≡ None

abbrev pub next_of : Option Link → Option Handle
next_of None = None
next_of (Some link) = link.next

-- the handles that come one behind the other from this one on, up to so many
abbrev pub handles_from : (Handle → Option Link) → Option Handle → ℕ → List Handle
handles_from at None most = []
handles_from at (Some handle) zero = []
handles_from at (Some handle) (suc most) = handle ∷ handles_from at (next_of (at handle)) most

-- the handles of a chain in their order
abbrev pub members : Links → Chain → List Handle
members links chain = handles_from (link_of links) chain.first (length links)

-- the first of the handles, or `after` where there is none
abbrev pub first_or : List Handle → Option Handle → Option Handle
first_or [] after = after
first_or (handle ∷ rest) after = Some handle

-- the last of the handles, or `before` where there is none
abbrev pub last_or : Option Handle → List Handle → Option Handle
last_or before [] = before
last_or before (handle ∷ rest) = last_or (Some handle) rest

-- each of the handles has the one in front of it and the one behind it as its neighbours, where `before` and `after` enclose the list
abbrev pub Joins : (Handle → Option Link) → Option Handle → List Handle → Option Handle → Type 0
Joins at before [] after = Unit {0}
Joins at before (handle ∷ rest) after =
    (at handle ≡ Some (record { previous = before; next = first_or rest after })) × Joins at (Some handle) rest after

-- the chain runs through the pool that has these links
pub record IsChain (links : Links) (chain : Chain) : Type 0 where
  pub first : chain.first ≡ first_or (members links chain) None
  pub last : chain.last ≡ last_or None (members links chain)
  pub joined : Joins (link_of links) None (members links chain) None

-- the test for any other handle
abbrev pub is_other : Handle → Handle → Bool
is_other handle other = not (same_handle handle other)

-- the lists have no handle in common
abbrev pub AreApart : List Handle → List Handle → Type 0
AreApart xs ys = (handle : Handle) → Contains xs handle → Contains ys handle → ⊥

-- each chain that has no handle in common with `changed` is a chain still, with the same handles
abbrev pub KeepsOthers : Links → Links → List Handle → Type 0
KeepsOthers old new changed =
    (other : Chain) → IsChain old other → AreApart (members old other) changed
    → IsChain new other × (members new other ≡ members old other)
