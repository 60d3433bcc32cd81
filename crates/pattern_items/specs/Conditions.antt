-- What an item asks of a layer of its kind: spec, last and mask of the rte_flow guide, where the mask is applied first
-- to all three numbers, spec, last and the layer's own.
use Rattle.std.specs.Prelude.{ℕ, Bool, true, ◌&&◌, nat_le, nat_lt, max, bit_and, slice_index, map, filter, length, replicate, List, [], ◌∷◌, Option, None, Some}
use Rattle.std.specs.List.{range_with_len}
use Rattle.packet_headers.specs.declared.items.ItemKind.{ItemKind}
use Rattle.packet_headers.specs.Fields.{FieldOf, fields_of, padded}
use Rattle.pattern_items.specs.declared.pattern.Fields.{Fields}
use Rattle.pattern_items.specs.declared.pattern.Item.{Item}
use Rattle.pattern_items.specs.declared.test.Condition.{Condition}

-- the masks of an item that has spec without mask
abbrev pub default_masks : ItemKind → List ℕ
default_masks k = padded (map (λ (f : FieldOf). f.default_mask) (fields_of k))

-- the numbers that stand there, or these where none stand
abbrev pub numbers_or : List ℕ → Option Fields → List ℕ
numbers_or v None = v
numbers_or v (Some fields) = fields.v

abbrev pub masks_of : Item → List ℕ
masks_of item = numbers_or (default_masks item.kind) item.mask

-- without `last` no field makes a range, as where it is 0
abbrev pub lasts_of : Item → List ℕ
lasts_of item = numbers_or (replicate 6 0) item.last

-- the field's number, by the mask, is from `spec` to `last`, or just `spec` where `last` isn't greater
abbrev pub condition : List ℕ → List ℕ → List ℕ → ℕ → Condition
condition given last mask field = record {
  field = field;
  mask = slice_index mask field;
  low = bit_and (slice_index given field) (slice_index mask field);
  high = max (bit_and (slice_index given field) (slice_index mask field)) (bit_and (slice_index last field) (slice_index mask field));
}

-- a mask of 0 asks for nothing
abbrev pub asks : Condition → Bool
asks c = nat_lt 0 c.mask

-- the conditions on the fields of a kind
abbrev pub conditions_with : ItemKind → List ℕ → List ℕ → List ℕ → List Condition
conditions_with kind given last mask = filter asks (map (condition given last mask) (range_with_len 0 (length (fields_of kind))))

-- what an item asks: nothing without spec
abbrev pub conditions_of : Item → List Condition
conditions_of item = elim item.given [ None ↦ [] | Some given ↦ conditions_with item.kind given.v (lasts_of item) (masks_of item) ]

-- the number lies in the condition's range
abbrev pub is_met : Condition → ℕ → Bool
is_met c n = nat_le c.low (bit_and n c.mask) && nat_le (bit_and n c.mask) c.high

-- the numbers of a layer meet all conditions
abbrev pub fits : List Condition → List ℕ → Bool
fits [] v = true
fits (c ∷ cs) v = is_met c (slice_index v c.field) && fits cs v
