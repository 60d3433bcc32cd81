-- What a test asks where no field makes a range: masks and values, by items and fields. And the layers at which it
-- asks, which follow from the items' kinds alone.
use Rattle.std.specs.Prelude.{ℕ, Bool, not, nat_eq, if◌then◌else◌, bit_and, slice_index, map, List, [], ◌∷◌, Option, None, Some}
use Rattle.std.specs.List.{list_any, range_with_len}
use Rattle.packet_headers.specs.declared.items.ItemKind.{ItemKind}
use Rattle.packet_headers.specs.declared.items.LayerAt.{LayerAt}
use Rattle.pattern_items.specs.declared.pattern.Fields.{Fields}
use Rattle.pattern_items.specs.declared.shape.Shape.{Shape}
use Rattle.pattern_items.specs.declared.test.Condition.{Condition}
use Rattle.pattern_items.specs.declared.test.ItemTest.{ItemTest}
use Rattle.pattern_items.specs.declared.test.Test.{Test}
use Rattle.packet_headers.specs.Key.{is_of}
use Rattle.pattern_items.specs.Order.{is_vlan, is_vxlan}

-- the condition makes a range of more than one number
abbrev pub makes_range : Condition → Bool
makes_range c = not (nat_eq c.low c.high)

abbrev pub item_has_range : ItemTest → Bool
item_has_range i = list_any makes_range i.conditions.items

abbrev pub has_range : Test → Bool
has_range test = list_any item_has_range test

-- the condition on a field; where there is none, nothing is asked
abbrev pub on_field : List Condition → ℕ → Condition
on_field [] field = record { field = field; mask = 0; low = 0; high = 0 }
on_field (c ∷ cs) field = if nat_eq c.field field then c else on_field cs field

-- a number for each of six fields
abbrev pub by_field : (ℕ → ℕ) → Fields
by_field number = record { v = map number (range_with_len 0 6) }

abbrev pub masks_of_test : ItemTest → Fields
masks_of_test i = by_field (λ field. (on_field i.conditions.items field).mask)

abbrev pub values_of_test : ItemTest → Fields
values_of_test i = by_field (λ field. (on_field i.conditions.items field).low)

abbrev pub kind_of_test : ItemTest → ItemKind
kind_of_test i = i.kind

-- the shape of a test
abbrev pub shape_of : Test → Shape
shape_of test = record {
  kinds = record { items = map kind_of_test test };
  masks = record { items = map masks_of_test test };
  values = record { items = map values_of_test test };
}

-- a layer before others, where there are others
abbrev pub and_then : LayerAt → Option (List LayerAt) → Option (List LayerAt)
and_then l None = None
and_then l (Some ls) = Some (l ∷ ls)

-- the layers that items of these kinds meet, from the first one's on, where they do
abbrev pub met_from : List ItemKind → List LayerAt → Option (List LayerAt)
met_from [] ls = Some []
met_from (k ∷ ks) [] = None
met_from (k ∷ ks) (l ∷ ls) =
    if is_of k l then and_then l (met_from ks ls)
    else (if is_vlan l.layer.kind then met_from (k ∷ ks) ls else None)

-- the same, where the first one's is looked for in the outer headers and at the VXLAN header
abbrev pub met_by : List ItemKind → List LayerAt → Option (List LayerAt)
met_by [] ls = Some []
met_by (k ∷ ks) [] = None
met_by (k ∷ ks) (l ∷ ls) =
    if is_of k l then met_from (k ∷ ks) (l ∷ ls)
    else (if is_vxlan l.layer.kind then None else met_by (k ∷ ks) ls)

-- a layer's numbers, each by its mask
abbrev pub masked_by : Fields → LayerAt → Fields
masked_by mask l = by_field (λ field. bit_and (slice_index l.layer.v field) (slice_index mask.v field))

abbrev pub all_masked_by : List Fields → List LayerAt → List Fields
all_masked_by [] ls = []
all_masked_by (mask ∷ masks) [] = []
all_masked_by (mask ∷ masks) (l ∷ ls) = masked_by mask l ∷ all_masked_by masks ls

abbrev pub option_masked_by : List Fields → Option (List LayerAt) → Option (List Fields)
option_masked_by masks None = None
option_masked_by masks (Some ls) = Some (all_masked_by masks ls)

-- the numbers that layers have in a shape: by its masks, at the layers that its kinds meet, where they do
abbrev pub numbers_in : Shape → List LayerAt → Option (List Fields)
numbers_in shape ls = option_masked_by shape.masks.items (met_by shape.kinds.items ls)
