-- When an item fits a layer of its kind, in the words of the rte_flow guide: spec, last and the layer's own number are
-- compared by the mask.
use Rattle.std.specs.Prelude.{ℕ, Bool, true, false, ◌&&◌, ◌||◌, nat_eq, nat_le, nat_lt, bit_and, slice_index, length, List, Option, None, Some}
use Rattle.std.specs.List.{list_all, range_with_len}
use Rattle.packet_headers.specs.Fields.{fields_of}
use Rattle.pattern_items.specs.declared.pattern.Fields.{Fields}
use Rattle.pattern_items.specs.declared.pattern.Item.{Item}
use Rattle.pattern_items.specs.Conditions.{masks_of}

-- the number of a field, by a mask
abbrev pub masked_number : List ℕ → List ℕ → ℕ → ℕ
masked_number numbers mask field = bit_and (slice_index numbers field) (slice_index mask field)

-- where `last` is given and greater than `spec`, the number may be any from `spec` to `last`
abbrev pub is_in_range : ℕ → Option Fields → ℕ → List ℕ → ℕ → Bool
is_in_range spec None number mask field = false
is_in_range spec (Some last) number mask field =
    nat_lt spec (masked_number last.v mask field) && (nat_le spec number && nat_le number (masked_number last.v mask field))

-- the number is `spec`, or in the range
abbrev pub field_fits : Item → Fields → List ℕ → ℕ → Bool
field_fits item given v field =
    nat_eq (masked_number v (masks_of item) field) (masked_number given.v (masks_of item) field)
    || is_in_range (masked_number given.v (masks_of item) field) item.last (masked_number v (masks_of item) field) (masks_of item) field

-- an item without spec fits each layer of its kind, and another fits where each field does
abbrev pub item_fits : Item → List ℕ → Bool
item_fits item v = elim item.given [ None ↦ true | Some given ↦ list_all (field_fits item given v) (range_with_len 0 (length (fields_of item.kind))) ]
