-- How a pool lays out its values. No public clause cites this module.
use Rattle.std.specs.Prelude.{◌≡◌, ℕ, zero, suc, true, ◌+◌, ◌<◌, ◌^◌, List, [], ◌∷◌, ◌++◌, length, Option, Some, None, is_some, ◌==◌, if◌then◌else◌, slice_index_or, slice_set, slice_get}
use Rattle.std.specs.Option.{option_to_list, option_map}
use Rattle.slot_pool.specs.Links.{Links}
use Rattle.slot_pool.specs.Pool.{Pool}
use Rattle.slot_pool.specs.declared.handle.Handle.{Handle}
use Rattle.slot_pool.specs.declared.chain.Chain.{Chain}
use Rattle.slot_pool.specs.declared.chain.Link.{Link}
use Rattle.slot_pool.specs.declared.chain.Side.{Side}
use Rattle.slot_pool.specs.declared.chain.Side.TheVariants as sides
use Rattle.slot_pool.specs.declared.place.Resident.{Resident}
use Rattle.slot_pool.specs.declared.place.Place.{Place}
use Rattle.slot_pool.specs.declared.place.Place.TheVariants.{Free, Filled}

-- the link with another neighbour on one side
abbrev pub beside : Side → Option Handle → Link → Link
beside sides.Previous neighbour link = record link { previous = neighbour }
beside sides.Next neighbour link = record link { next = neighbour }

abbrev pub link_changed : Side → Option Handle → Option Link → Option Link
link_changed side neighbour None = None
link_changed side neighbour (Some link) = Some (beside side neighbour link)

-- the link of a place with this index, with its handle
abbrev pub link_entry : ℕ → ℕ → Option Link → Links
link_entry index number None = []
link_entry index number (Some link) = (record { number = number; place = index }, link) ∷ []

-- what the numbers below this one find, in their order
abbrev pub collected : {E : Type 0} → ℕ → (ℕ → Option E) → List E
collected zero found = []
collected (suc number) found = collected number found ++ option_to_list (found number)

-- the first free place once so many places were added behind so many
abbrev pub free_after : ℕ → ℕ → Option ℕ → Option ℕ
free_after zero count free = free
free_after (suc more) count free = free_after more (count + 1) (Some count)

-- the ends of a chain with this handle at the end
abbrev pub or_handle : Option Handle → Handle → Option Handle
or_handle None handle = Some handle
or_handle (Some first) handle = Some first

abbrev pub with_last : Chain → Handle → Chain
with_last chain handle = record { first = or_handle chain.first handle; last = Some handle }

-- the ends of a chain without the handle that has these neighbours
abbrev pub end_without : Option Handle → Option Handle → Option Handle → Option Handle
end_without None beyond end = beyond
end_without (Some neighbour) beyond end = end

abbrev pub without_link : Chain → Link → Chain
without_link chain link = record {
  first = end_without link.previous link.next chain.first;
  last = end_without link.next link.previous chain.last;
}

module _ {T : Type 0} where
  -- what a place holds
  abbrev pub filled : Place T → Option (Resident T)
  filled (Free _) = None
  filled (Filled held) = Some held

  -- the place with this value in place of its own
  abbrev pub refilled : Place T → T → Place T
  refilled (Free next) value = Free next
  refilled (Filled held) value = Filled (record held { value = value })

  -- what a place holds under this number of puts
  abbrev pub held_under : ℕ → Place T → Option (Resident T)
  held_under number (Free _) = None
  held_under number (Filled held) = if held.number == number then Some held else None

  -- the place of this index, and a free one behind the last
  abbrev pub place_at : List (Place T) → ℕ → Place T
  place_at places index = slice_index_or places index (Free None)

  -- what is held under a handle
  abbrev pub held_at : List (Place T) → Handle → Option (Resident T)
  held_at places handle = held_under handle.number (place_at places handle.place)

  abbrev pub value_of : Option (Resident T) → Option T
  value_of held = option_map (λ h. h.value) held

  abbrev pub link_in : Option (Resident T) → Option Link
  link_in None = None
  link_in (Some held) = held.link

  -- the places with this value where the handle's is
  abbrev pub revalued : List (Place T) → Handle → T → List (Place T)
  revalued places handle value = slice_set places handle.place (refilled (place_at places handle.place) value)

  -- the entry of what is held at an index, or else a later one
  abbrev pub entry_or : ℕ → Option (Resident T) → Option (Handle × T) → Option (Handle × T)
  entry_or index None later = later
  entry_or index (Some held) later = Some (record { number = held.number; place = index }, held.value)

  -- the handle and value that were put under this number, where the first place has this index
  abbrev pub numbered : ℕ → List (Place T) → ℕ → Option (Handle × T)
  numbered index [] number = None
  numbered index (place ∷ rest) number = entry_or index (held_under number place) (numbered (index + 1) rest number)

  -- the handles and values of the puts that came before so many, in their order
  abbrev pub values_below : ℕ → List (Place T) → List (Handle × T)
  values_below most places = collected most (numbered 0 places)

  abbrev pub links_at : ℕ → Place T → Links
  links_at index (Free _) = []
  links_at index (Filled held) = link_entry index held.number held.link

  -- the links of the places, where the first place has this index
  abbrev pub links_from : ℕ → List (Place T) → Links
  links_from index [] = []
  links_from index (place ∷ rest) = links_at index place ++ links_from (index + 1) rest

  -- what a contract sees of the places after so many puts
  abbrev pub pool_of : List (Place T) → ℕ → Pool T
  pool_of places puts = record {
    values = values_below puts places;
    capacity = length places;
    puts = puts;
    links = links_from 0 places;
  }

  -- so many free places, the first of them `head`, each name the next
  abbrev pub IsFreeList : List (Place T) → ℕ → Option ℕ → Type 0
  IsFreeList places zero head = head ≡ None
  IsFreeList places (suc count) head =
      (index : ℕ) × (next : Option ℕ) × (head ≡ Some index) × (slice_get places index ≡ Some (Free next))
      × IsFreeList places count next

  -- the places with so many free ones more, each of which names the one before, and the first of the free ones then
  abbrev pub with_free : ℕ → List (Place T) → Option ℕ → List (Place T)
  with_free zero places free = places
  with_free (suc more) places free = with_free more (places ++ Free free ∷ []) (Some (length places))

  -- no two values have one number, each number is below the puts, and the list from `free` on has every free place
  pub record IsSound (places : List (Place T)) (free : Option ℕ) (puts : ℕ) : Type 0 where
    pub numbers : (index number : ℕ) → is_some (held_under number (place_at places index)) ≡ true → number < puts
    pub unique : (i j number : ℕ) → is_some (held_under number (place_at places i)) ≡ true
        → is_some (held_under number (place_at places j)) ≡ true → i ≡ j
    pub vacant : ℕ
    pub linked : IsFreeList places vacant free
    pub total : length (values_below puts places) + vacant ≡ length places
    pub small : length places < 2 ^ 32

  -- the places with this link for what the handle names, if anything
  abbrev pub relinked : List (Place T) → Handle → Option Link → Option (Resident T) → List (Place T)
  relinked places handle link None = places
  relinked places handle link (Some held) = slice_set places handle.place (Filled (record held { link = link }))

  abbrev pub with_link : List (Place T) → Handle → Option Link → List (Place T)
  with_link places handle link = relinked places handle link (held_at places handle)

  abbrev pub with_changed : List (Place T) → Handle → Option Link → List (Place T)
  with_changed places handle None = places
  with_changed places handle (Some link) = with_link places handle (Some link)

  -- the places with this neighbour on one side of the handle given, if any
  abbrev pub with_neighbour : List (Place T) → Option Handle → Side → Option Handle → List (Place T)
  with_neighbour places None side neighbour = places
  with_neighbour places (Some handle) side neighbour =
      with_changed places handle (link_changed side neighbour (link_in (held_at places handle)))
