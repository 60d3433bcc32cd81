-- The conditions of an item say what the guide says.
use Rattle.std.proofs.Common.{◌≡◌, ℕ, ◌+◌, zero, suc, Bool, true, false, ◌&&◌, ◌||◌, nat_eq, nat_le, nat_lt, bit_and, slice_index, replicate, max, List, [], map, length, Option, None, Some, arith, refl, ap, sym, ◌∙◌, eq-eqb}
use Rattle.std.specs.List.{list_all, filter, range_with_len}
use Rattle.std.specs.Int.Bits.{and_zero_l, and_zero_r}
use Rattle.std.proofs.lemmas.Bool.{cond_both, ltb-false}
use Rattle.std.proofs.lemmas.Bool.Decides.{nat_tests}
use Rattle.packet_headers.specs.Fields.{fields_of}
use Rattle.pattern_items.specs.declared.pattern.Fields.{Fields}
use Rattle.pattern_items.specs.declared.pattern.Item.{Item}
use Rattle.pattern_items.specs.declared.test.Condition.{Condition}
use Rattle.pattern_items.specs.Conditions.{asks, condition, conditions_with, conditions_of, numbers_or, masks_of, lasts_of, is_met, fits}
use Rattle.pattern_items.specs.Guide.{masked_number, is_in_range, field_fits, item_fits}
use Rattle.pattern_items.proofs.FieldLists.{zeros}

met_range : (s l n : ℕ) → (nat_le s n && nat_le n (max s l)) ≡ (nat_eq n s || (nat_lt s l && (nat_le s n && nat_le n l)))
met_range s l n = grind (arith, nat_tests)

met_point : (s l n : ℕ) → l ≡ 0 → (nat_le s n && nat_le n (max s l)) ≡ (nat_eq n s || false)
met_point s l n e = grind (arith, nat_tests)

-- one field of which something is asked
field_met : (item : Item) (given : Fields) (last : Option Fields) (v : List ℕ) (k : ℕ)
    → is_met (condition given.v (numbers_or (replicate 6 0) last) (masks_of item) k) (slice_index v k)
    ≡ (nat_eq (masked_number v (masks_of item) k) (masked_number given.v (masks_of item) k)
    || is_in_range (masked_number given.v (masks_of item) k) last (masked_number v (masks_of item) k) (masks_of item) k)
field_met item given None v k =
    let mask = slice_index (masks_of item) k in
    let zero : bit_and (slice_index (replicate 6 0) k) mask ≡ 0 = ap (λ (n : ℕ). bit_and n mask) (zeros 6 k) ∙ and_zero_l mask in
    met_point (masked_number given.v (masks_of item) k) (bit_and (slice_index (replicate 6 0) k) mask) (masked_number v (masks_of item) k) zero
field_met item given (Some last) v k =
    met_range (masked_number given.v (masks_of item) k) (masked_number last.v (masks_of item) k) (masked_number v (masks_of item) k)

or_true : (a b : Bool) → a ≡ true → (a || b) ≡ true
or_true true b e = refl
or_true false b e = cc

-- a field of which nothing is asked fits
unmasked_fits : (item : Item) (given : Fields) (v : List ℕ) (k : ℕ) → nat_lt 0 (slice_index (masks_of item) k) ≡ false → field_fits item given v k ≡ true
unmasked_fits item given v k e =
    let least = ltb-false 0 (slice_index (masks_of item) k) e in
    let none : slice_index (masks_of item) k ≡ 0 = omega arith in
    let a : masked_number v (masks_of item) k ≡ 0 = ap (bit_and (slice_index v k)) none ∙ and_zero_r (slice_index v k) in
    let b : masked_number given.v (masks_of item) k ≡ 0 = ap (bit_and (slice_index given.v k)) none ∙ and_zero_r (slice_index given.v k) in
    or_true (nat_eq (masked_number v (masks_of item) k) (masked_number given.v (masks_of item) k)) _ (eq-eqb _ _ (a ∙ sym b))

fields_fit : (item : Item) (given : Fields) (v : List ℕ) (a n : ℕ)
    → fits (filter asks (map (condition given.v (lasts_of item) (masks_of item)) (range_with_len a n))) v ≡ list_all (field_fits item given v) (range_with_len a n)
fields_fit item given v a zero = refl
fields_fit item given v a (suc n) =
    let rest = list_all (field_fits item given v) (range_with_len (a + 1) n) in
    let more = fields_fit item given v (a + 1) n in
    cond_both (asks (condition given.v (lasts_of item) (masks_of item) a)) _ _ (λ (cs : List Condition). fits cs v ≡ (field_fits item given v a && rest))
    (λ _. ap (λ (b : Bool). b && fits (filter asks (map (condition given.v (lasts_of item) (masks_of item)) (range_with_len (a + 1) n))) v) (field_met item given item.last v a)
    ∙ ap (λ (b : Bool). field_fits item given v a && b) more)
    (λ e. more ∙ ap (λ (b : Bool). b && rest) (sym (unmasked_fits item given v a e)))

item_fits_with : (item : Item) (given : Option Fields) (v : List ℕ)
    → fits (elim given [ None ↦ [] | Some fields ↦ conditions_with item.kind fields.v (lasts_of item) (masks_of item) ]) v
    ≡ (elim given [ None ↦ true | Some fields ↦ list_all (field_fits item fields v) (range_with_len 0 (length (fields_of item.kind))) ])
item_fits_with item None v = refl
item_fits_with item (Some fields) v = fields_fit item fields v 0 (length (fields_of item.kind))

pub fits_by_guide : (item : Item) (v : List ℕ) → fits (conditions_of item) v ≡ item_fits item v
fits_by_guide item v = item_fits_with item item.given v
