-- What a relation says of what a field word names (testpmd user guide: flow rules).
use Rattle.std.specs.Prelude.{ℕ, ◌-◌, ◌/◌, ◌%◌, ◌^◌, nat_le, List, [], ◌∷◌, codes, replicate, slice_set, Option, None, Some, option_and_then, option_map, if◌then◌else◌}
use Rattle.pattern_items.specs.declared.pattern.Fields.{Fields}
use Rattle.pattern_items.specs.declared.pattern.Item.{Item}
use Rattle.rule_words.specs.declared.field_words.Spot.{Spot}
use Rattle.rule_words.specs.declared.field_words.Spot.TheVariants as spots
use Rattle.rule_words.specs.declared.field_words.Named.{Named}
use Rattle.rule_words.specs.declared.relations.Relation.{Relation}
use Rattle.rule_words.specs.declared.relations.Relation.TheVariants as relation
use Rattle.rule_words.specs.Number.{number_of}
use Rattle.rule_words.specs.Value.{value_of}

abbrev pub relations : List (List ℕ × Relation)
relations =
    (codes "is", relation.Is)
    ∷ (codes "spec", relation.Spec)
    ∷ (codes "last", relation.Last)
    ∷ (codes "mask", relation.Mask)
    ∷ (codes "prefix", relation.Prefix)
    ∷ []

-- the mask of the `len` most significant bits of a field of `bits` bits
abbrev pub prefix_mask : ℕ → ℕ → ℕ
prefix_mask bits len = 2 ^ bits - 2 ^ (bits - len)

-- the mask of a prefix of so many bits as the word says, which are no more than the field has
abbrev pub prefix_within : ℕ → ℕ → Option ℕ
prefix_within bits len = if nat_le len bits then Some (prefix_mask bits len) else None

abbrev pub prefix_of : ℕ → List ℕ → Option ℕ
prefix_of bits word = option_and_then (prefix_within bits) (number_of word)

-- six numbers with the number at a spot replaced: that of a field, or pcp, dei and vid by the bits of a tag's control
-- information (IEEE 802.1Q), which are the first three fields of vlan
abbrev pub put : Spot → ℕ → List ℕ → List ℕ
put (spots.Field place) number v = slice_set v place number
put spots.Tci number v =
    slice_set (slice_set (slice_set v 0 (number / 2 ^ 13)) 1 (number / 2 ^ 12 % 2)) 2 (number % 2 ^ 12)

-- what isn't named is 0
abbrev pub numbers_of : Option Fields → List ℕ
numbers_of None = replicate 6 0
numbers_of (Some fields) = fields.v

abbrev pub with_number : Option Fields → Spot → ℕ → Fields
with_number fields spot number = record { v = put spot number (numbers_of fields) }

abbrev pub with_spec : Item → Named → ℕ → Item
with_spec item named number = record item { given = Some (with_number item.given named.spot number) }

abbrev pub with_last : Item → Named → ℕ → Item
with_last item named number = record item { last = Some (with_number item.last named.spot number) }

abbrev pub with_mask : Item → Named → ℕ → Item
with_mask item named number = record item { mask = Some (with_number item.mask named.spot number) }

-- The item with what a relation says. `is` sets the spec to the value and the mask to all ones, `spec`, `last` and `mask`
-- set those to the value, and `prefix` sets the mask to the most significant bits. A later one replaces an earlier one.
abbrev pub related : Item → Named → Relation → List ℕ → Option Item
related item named relation.Is word = option_map (λ value. with_mask (with_spec item named value) named (2 ^ named.bits - 1)) (value_of named.form word)
related item named relation.Spec word = option_map (with_spec item named) (value_of named.form word)
related item named relation.Last word = option_map (with_last item named) (value_of named.form word)
related item named relation.Mask word = option_map (with_mask item named) (value_of named.form word)
related item named relation.Prefix word = option_map (with_mask item named) (prefix_of named.bits word)
