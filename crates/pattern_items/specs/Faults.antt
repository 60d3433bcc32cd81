-- The faults of a pattern, item by item from the left, and the first of them.
use Rattle.std.specs.Prelude.{ℕ, ◌+◌, Bool, true, false, ◌&&◌, ◌||◌, not, nat_lt, is_some, if◌then◌else◌, bit_and, slice_index, length, List, [], ◌∷◌, ◌++◌, Option, None, Some}
use Rattle.std.specs.List.{list_any, range_with_len}
use Rattle.packet_headers.specs.declared.items.ItemKind.{ItemKind}
use Rattle.packet_headers.specs.declared.items.ItemKind.TheVariants as kind
use Rattle.packet_headers.specs.Fields.{fields_of}
use Rattle.pattern_items.specs.declared.pattern.Fields.{Fields}
use Rattle.pattern_items.specs.declared.pattern.Item.{Item}
use Rattle.pattern_items.specs.declared.pattern.Pattern.{Pattern}
use Rattle.pattern_items.specs.declared.fault.ItemFault.{ItemFault}
use Rattle.pattern_items.specs.declared.fault.ItemFault.TheVariants as faults
use Rattle.pattern_items.specs.Conditions.{masks_of}
use Rattle.pattern_items.specs.declared.order.Before.{Before}
use Rattle.pattern_items.specs.Order.{nothing_before, before_next, may_stand}

abbrev pub is_void : ItemKind → Bool
is_void kind.Void = true
is_void _ = false

-- `last` or `mask` without `spec`
abbrev pub lacks_spec : Item → Bool
lacks_spec item = not (is_some item.given) && (is_some item.last || is_some item.mask)

-- a field's `last` isn't 0 and is below its `spec`, each by the mask
abbrev pub is_below : List ℕ → List ℕ → List ℕ → ℕ → Bool
is_below given last mask field =
    nat_lt 0 (bit_and (slice_index last field) (slice_index mask field))
    && nat_lt (bit_and (slice_index last field) (slice_index mask field)) (bit_and (slice_index given field) (slice_index mask field))

abbrev pub ends_below : Item → Option Fields → Option Fields → Bool
ends_below item (Some given) (Some last) = list_any (is_below given.v last.v (masks_of item)) (range_with_len 0 (length (fields_of item.kind)))
ends_below item _ _ = false

-- a fault, where it is one
abbrev pub fault_if : Bool → ItemFault → List ItemFault
fault_if true fault = fault ∷ []
fault_if false fault = []

-- the faults of an item at a place, behind what stands before it
abbrev pub faults_of_item : ℕ → Before → Item → List ItemFault
faults_of_item place before item =
    fault_if (not (may_stand before item.kind)) (faults.Order place)
    ++ (fault_if (lacks_spec item) (faults.SpecMissing place)
    ++ fault_if (ends_below item item.given item.last) (faults.LastBelow place))

-- the faults of the items from a place on; none stands at a `Void` item
abbrev pub faults_from : ℕ → Before → List Item → List ItemFault
faults_from place before [] = []
faults_from place before (item ∷ items) =
    if is_void item.kind then faults_from (place + 1) before items
    else faults_of_item place before item ++ faults_from (place + 1) (before_next before item.kind) items

-- all faults of a pattern
abbrev pub faults_of : Pattern → List ItemFault
faults_of pattern = fault_if (nat_lt 0 pattern.more) faults.TooMany ++ faults_from 0 nothing_before pattern.items.items

abbrev pub first : List ItemFault → Option ItemFault
first [] = None
first (fault ∷ _) = Some fault

-- the first fault of a pattern
abbrev pub first_fault : Pattern → Option ItemFault
first_fault pattern = first (faults_of pattern)
