-- What a contract sees of a pool.
use Rattle.std.specs.Prelude.{◌≡◌, ◌≢◌, ℕ, ◌+◌, List, ◌∷◌, [], ◌++◌, Option, IsSome}
use Rattle.std.specs.Map.{lookup, remove_entry, set_value}
use Rattle.slot_pool.specs.declared.handle.Handle.{Handle}
use Rattle.slot_pool.specs.Handle.{same_handle}
use Rattle.slot_pool.specs.Links.{Links}

-- the values that live, each under its handle and in the order of their puts; how many fit; how many were put; and the links of the chains
pub record Pool (T : Type 0) : Type 0 where
  pub values : List (Handle × T)
  pub capacity : ℕ
  pub puts : ℕ
  pub links : Links

module _ {T : Type 0} where
  -- the value that lives under a handle
  abbrev pub get : Pool T → Handle → Option T
  get pool handle = lookup (same_handle handle) pool.values

  -- a value lives under the handle
  abbrev pub Lives : Pool T → Handle → Type 0
  Lives pool handle = IsSome (get pool handle)

  -- every other handle finds what it found
  abbrev pub KeepsOtherValues : Pool T → Pool T → Handle → Type 0
  KeepsOtherValues old new handle = (other : Handle) → other ≢ handle → get new other ≡ get old other

  -- a pool of so many places without a value
  abbrev pub empty_pool : ℕ → Pool T
  empty_pool capacity = record { values = []; capacity = capacity; puts = 0; links = [] }

  -- the pool after a put that gave this handle
  abbrev pub with_put : Pool T → Handle → T → Pool T
  with_put pool handle value = record pool { values = pool.values ++ (handle, value) ∷ []; puts = pool.puts + 1 }

  -- the pool without the value under the handle
  abbrev pub without : Pool T → Handle → Pool T
  without pool handle = record pool { values = remove_entry (same_handle handle) pool.values }

  -- the pool with this value under the handle in place of the one that lives there
  abbrev pub with_value : Pool T → Handle → T → Pool T
  with_value pool handle value = record pool { values = set_value (same_handle handle) pool.values value }
