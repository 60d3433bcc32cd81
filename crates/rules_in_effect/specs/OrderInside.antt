-- How the code keeps the order.
use Rattle.std.specs.Prelude.{◌≡◌, ℕ, ◌-◌, ◌^◌, ◌≤◌, min, map, flat_map, length, List, [], ◌∷◌, Option, None, Some}
use Rattle.slot_pool.specs.declared.handle.Handle.{Handle}
use Rattle.slot_pool.specs.declared.chain.Chain.{Chain}
use Rattle.slot_pool.specs.Links.{IsChain, IsUnchained, members}
use Rattle.slot_pool.specs.Pool.{KeepsOtherValues, Pool, get, with_put}
use Rattle.rules_in_effect.specs.declared.in_effect.InEffect.{InEffect}
use Rattle.rules_in_effect.specs.declared.order.Order.TheInside.{Inside}
use Rattle.rules_in_effect.specs.Order.{OrderView}

-- what is lodged under a handle
abbrev pub lodged : Option InEffect → List InEffect
lodged None = []
lodged (Some entry) = entry ∷ []

-- the rules under some handles, in order
abbrev pub lodged_under : (Handle → Option InEffect) → List Handle → List InEffect
lodged_under found handles = flat_map (λ handle. lodged (found handle)) handles

abbrev pub with_handle : Handle → List InEffect → List (Handle × InEffect)
with_handle handle entries = map (λ entry. (handle, entry)) entries

abbrev pub kept_in : (Handle → Option InEffect) → List Handle → List (Handle × InEffect)
kept_in found handles = flat_map (λ handle. with_handle handle (lodged (found handle))) handles

-- one rule is lodged under each handle
abbrev pub AreLodged : (Handle → Option InEffect) → List Handle → Type 0
AreLodged found [] = Unit {0}
AreLodged found (handle ∷ handles) = ((entry : InEffect) × (found handle ≡ Some entry)) × AreLodged found handles

abbrev pub view_of : Inside → OrderView
view_of order = record {
  kept = kept_in (get order.pool) (members order.pool.links order.chain);
  room = min (order.capacity - order.len) (2 ^ 64 - 1 - order.pool.puts);
}

-- the chain has every value of the pool, and its capacity is known
pub record IsOrder (pool : Pool InEffect) (chain : Chain) (len capacity : ℕ) : Type 0 where
  pub chained : IsChain pool.links chain
  pub lodgers : AreLodged (get pool) (members pool.links chain)
  pub number : length (members pool.links chain) ≡ len
  pub values : length pool.values ≡ len
  pub size : pool.capacity ≡ capacity
  pub within : len ≤ capacity
  pub small : capacity ≤ 2 ^ 31

abbrev pub IsKept : Inside → Type 0
IsKept order = IsOrder order.pool order.chain order.len order.capacity

-- a value was put under this handle
pub record IsPut (old new : Pool InEffect) (handle : Handle) (value : InEffect) : Type 0 where
  pub put : new ≡ with_put old handle value
  pub unchained : IsUnchained new.links handle
  pub there : get new handle ≡ Some value
  pub others : KeepsOtherValues old new handle
