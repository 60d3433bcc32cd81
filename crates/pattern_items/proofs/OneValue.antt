-- An item without ranges fits the layers that have its values by its masks.
use Rattle.std.proofs.Common.{◌≡◌, ℕ, ◌+◌, ◌<◌, ◌≤◌, zero, suc, Bool, true, false, ◌&&◌, ◌||◌, not, nat_eq, nat_le, bit_and, slice_index, get_or, List, [], ◌∷◌, map, arith, refl, ap, subst, sym, ◌∙◌, cond, eq-eqb, zero-add}
use Rattle.std.specs.List.{list_any, range_with_len}
use Rattle.std.specs.Int.Bits.{and_zero_r}
use Rattle.std.proofs.lemmas.Bool.{cond_both, and_parts, leb-true, eqb-true, ne_eqb}
use Rattle.std.proofs.lemmas.Bool.Decides.{nat_tests}
use Rattle.std.proofs.lemmas.List.FromFn.{get_or-map-range_with_len}
use Rattle.packet_headers.specs.declared.items.LayerAt.{LayerAt}
use Rattle.pattern_items.specs.declared.pattern.Fields.{Fields}
use Rattle.pattern_items.specs.declared.test.Condition.{Condition}
use Rattle.pattern_items.specs.declared.test.ItemTest.{ItemTest}
use Rattle.pattern_items.specs.Conditions.{is_met, fits}
use Rattle.pattern_items.specs.Rising.{Rise}
use Rattle.pattern_items.specs.Shape.{makes_range, item_has_range, on_field, by_field, masks_of_test, values_of_test, masked_by}

-- a number has a condition's value by its mask
abbrev Has : Condition → ℕ → Type 0
Has c n = bit_and n c.mask ≡ c.low

pub or_parts : (a b : Bool) → (a || b) ≡ false → (a ≡ false) × (b ≡ false)
or_parts true b e = (e, cc)
or_parts false b e = (refl, e)

pub both_true : (a b : Bool) → a ≡ true → b ≡ true → (a && b) ≡ true
both_true true b e f = f
both_true false b e f = e

one_number : (low high : ℕ) → not (nat_eq low high) ≡ false → low ≡ high
one_number low high e = grind (arith, nat_tests)

met_has : (low high n : ℕ) → low ≡ high → (nat_le low n && nat_le n high) ≡ true → n ≡ low
met_has low high n same e =
    let parts = and_parts (nat_le low n) (nat_le n high) e in
    let below : low ≤ n = leb-true low n parts.0 in
    let above : n ≤ high = leb-true n high parts.1 in
    omega arith

has_met : (low high n : ℕ) → low ≡ high → n ≡ low → (nat_le low n && nat_le n high) ≡ true
has_met low high n same e = both_true (nat_le low n) (nat_le n high) (grind (arith, nat_tests)) (grind (arith, nat_tests))

fits_has : (cs : List Condition) (v : List ℕ) (k : ℕ) → list_any makes_range cs ≡ false → fits cs v ≡ true → Has (on_field cs k) (slice_index v k)
fits_has [] v k one e = and_zero_r (slice_index v k)
fits_has (c ∷ cs) v k one e =
    let single = or_parts (makes_range c) (list_any makes_range cs) one in
    let parts = and_parts (is_met c (slice_index v c.field)) (fits cs v) e in
    let here : Has c (slice_index v c.field) = met_has c.low c.high (bit_and (slice_index v c.field) c.mask) (one_number c.low c.high single.0) parts.0 in
    cond_both (nat_eq c.field k) _ _ (λ (x : Condition). Has x (slice_index v k))
    (λ same. subst (λ (j : ℕ). Has c (slice_index v j)) (eqb-true c.field k same) here)
    (λ _. fits_has cs v k single.1 parts.1)

has_fits : (a : ℕ) (cs : List Condition) (v : List ℕ) → list_any makes_range cs ≡ false → Rise a cs
    → ((k : ℕ) → a ≤ k → k < 6 → Has (on_field cs k) (slice_index v k)) → fits cs v ≡ true
has_fits a [] v one rise has = refl
has_fits a (c ∷ cs) v one rise has =
    let single = or_parts (makes_range c) (list_any makes_range cs) one in
    let first : Has (cond (nat_eq c.field c.field) c (on_field cs c.field)) (slice_index v c.field) = has c.field rise.0 rise.1 in
    let here : Has c (slice_index v c.field) =
    subst (λ (b : Bool). Has (cond b c (on_field cs c.field)) (slice_index v c.field)) (eq-eqb c.field c.field refl) first in
    both_true (is_met c (slice_index v c.field)) (fits cs v)
    (has_met c.low c.high (bit_and (slice_index v c.field) c.mask) (one_number c.low c.high single.0) here)
    (has_fits (c.field + 1) cs v single.1 rise.2 (λ k above below.
    let another : nat_eq c.field k ≡ false = ne_eqb c.field k (λ same. omega arith) in
    let there : Has (cond (nat_eq c.field k) c (on_field cs k)) (slice_index v k) = has k (let h = rise.0 in omega arith) below in
    subst (λ (b : Bool). Has (cond b c (on_field cs k)) (slice_index v k)) another there))

map_same : (f g : ℕ → ℕ) (a n : ℕ) → ((k : ℕ) → k < a + n → f k ≡ g k) → map f (range_with_len a n) ≡ map g (range_with_len a n)
map_same f g a zero same = refl
map_same f g a (suc n) same =
    let head : f a ≡ g a = same a (omega arith) in
    let tail = map_same f g (a + 1) n (λ k h. same k (omega arith)) in
    cc

by_field_same : (f g : ℕ → ℕ) → ((k : ℕ) → k < 6 → f k ≡ g k) → by_field f ≡ by_field g
by_field_same f g same = ap (λ (v : List ℕ). let fields : Fields = record { v = v } in fields) (map_same f g 0 6 (λ k h. same k (omega arith)))

by_field_at : (f : ℕ → ℕ) (k : ℕ) → k < 6 → ◌≡◌ {A = ℕ} (get_or (by_field f).v k 0) (f k)
by_field_at f k h = get_or-map-range_with_len f 0 6 k k 0 h (zero-add k)

by_field_parts : (f g : ℕ → ℕ) → by_field f ≡ by_field g → (k : ℕ) → k < 6 → f k ≡ g k
by_field_parts f g e k h = sym (by_field_at f k h) ∙ ap (λ (x : Fields). get_or x.v k 0) e ∙ by_field_at g k h

-- the number of a field, by the item's masks
masked_at : (i : ItemTest) (l : LayerAt) (k : ℕ) → k < 6
    → bit_and (slice_index l.layer.v k) (slice_index (masks_of_test i).v k) ≡ bit_and (slice_index l.layer.v k) (on_field i.conditions.items k).mask
masked_at i l k h = ap (bit_and (slice_index l.layer.v k)) (by_field_at (λ (field : ℕ). (on_field i.conditions.items field).mask) k h)

abbrev masked_number : ItemTest → LayerAt → ℕ → ℕ
masked_number i l field = bit_and (slice_index l.layer.v field) (slice_index (masks_of_test i).v field)

abbrev value_number : ItemTest → ℕ → ℕ
value_number i field = (on_field i.conditions.items field).low

pub values_where_fits : (i : ItemTest) (l : LayerAt) → item_has_range i ≡ false → fits i.conditions.items l.layer.v ≡ true → masked_by (masks_of_test i) l ≡ values_of_test i
values_where_fits i l one e =
    by_field_same (masked_number i l) (value_number i) (λ k h. masked_at i l k h ∙ fits_has i.conditions.items l.layer.v k one e)

pub fits_where_values : (i : ItemTest) (l : LayerAt) → item_has_range i ≡ false → Rise 0 i.conditions.items → masked_by (masks_of_test i) l ≡ values_of_test i → fits i.conditions.items l.layer.v ≡ true
fits_where_values i l one rise e =
    has_fits 0 i.conditions.items l.layer.v one rise
    (λ k _ h. sym (masked_at i l k h) ∙ by_field_parts (masked_number i l) (value_number i) e k h)
