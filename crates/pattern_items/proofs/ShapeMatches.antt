-- A test without ranges accepts the layers that have its shape's values.
use Rattle.std.proofs.Common.{◌≡◌, Bool, true, false, ◌&&◌, not, if◌then◌else◌, List, [], ◌∷◌, Option, None, Some, map, refl, ap, sym, subst, ◌∙◌}
use Rattle.std.specs.List.{list_any}
use Rattle.std.proofs.lemmas.Bool.{and_parts}
use Rattle.packet_headers.specs.declared.items.LayerAt.{LayerAt}
use Rattle.pattern_items.specs.declared.pattern.Fields.{Fields}
use Rattle.pattern_items.specs.declared.shape.Shape.{Shape}
use Rattle.pattern_items.specs.declared.test.ItemTest.{ItemTest}
use Rattle.pattern_items.specs.Conditions.{fits}
use Rattle.pattern_items.specs.Order.{is_vlan, is_vxlan}
use Rattle.packet_headers.specs.Key.{is_of}
use Rattle.pattern_items.specs.Matches.{goes_on, begins}
use Rattle.pattern_items.specs.Rising.{AllRise}
use Rattle.pattern_items.specs.Shape.{item_has_range, kind_of_test, masks_of_test, values_of_test, and_then, met_from, met_by, masked_by, all_masked_by, option_masked_by, numbers_in, shape_of}
use Rattle.pattern_items.proofs.OneValue.{or_parts, both_true, values_where_fits, fits_where_values}

-- the answer says whether the numbers are the values
record Tells (b : Bool) (numbers : Option (List Fields)) (values : List Fields) : Type 0 where
  on : b ≡ true → numbers ≡ Some values
  back : numbers ≡ Some values → b ≡ true

tells_none : (values : List Fields) → Tells false None values
tells_none values = record { on = λ e. cc; back = λ e. cc }

tells_if : (k a b : Bool) (masks : List Fields) (x y : Option (List LayerAt)) (values : List Fields)
    → Tells a (option_masked_by masks x) values → Tells b (option_masked_by masks y) values
    → Tells (if k then a else b) (option_masked_by masks (if k then x else y)) values
tells_if true a b masks x y values p q = p
tells_if false a b masks x y values p q = q

tells_and : (v a : Bool) (masks : List Fields) (x : Option (List LayerAt)) (values : List Fields)
    → Tells a (option_masked_by masks x) values → Tells (v && a) (option_masked_by masks (if v then x else None)) values
tells_and true a masks x values p = p
tells_and false a masks x values p = tells_none values

tells_not : (v a : Bool) (masks : List Fields) (x : Option (List LayerAt)) (values : List Fields)
    → Tells a (option_masked_by masks x) values → Tells (not v && a) (option_masked_by masks (if v then None else x)) values
tells_not true a masks x values p = tells_none values
tells_not false a masks x values p = p

tells_layer : (f a : Bool) (mask value : Fields) (l : LayerAt) (masks values : List Fields) (m : Option (List LayerAt))
    → (f ≡ true → masked_by mask l ≡ value) → (masked_by mask l ≡ value → f ≡ true)
    → Tells a (option_masked_by masks m) values → Tells (f && a) (option_masked_by (mask ∷ masks) (and_then l m)) (value ∷ values)
tells_layer f a mask value l masks values None on back t = record {
  on = λ e. let none = t.on (and_parts f a e).1 in cc;
  back = λ e. cc;
}
tells_layer f a mask value l masks values (Some ls) on back t = record {
  on = λ e. let parts = and_parts f a e in let here = on parts.0 in let there = t.on parts.1 in cc;
  back = λ e.
      let here : masked_by mask l ≡ value = cc in
      let there : ◌≡◌ {A = Option (List Fields)} (Some (all_masked_by masks ls)) (Some values) = cc in
      both_true f a (back here) (t.back there);
}

tells_goes_on : (is : List ItemTest) (ls : List LayerAt) → list_any item_has_range is ≡ false → AllRise is
    → Tells (goes_on is ls) (option_masked_by (map masks_of_test is) (met_from (map kind_of_test is) ls)) (map values_of_test is)
tells_goes_on [] ls one rise = record { on = λ e. refl; back = λ e. refl }
tells_goes_on (i ∷ is) [] one rise = tells_none (map values_of_test (i ∷ is))
tells_goes_on (i ∷ is) (l ∷ ls) one rise =
    let single = or_parts (item_has_range i) (list_any item_has_range is) one in
    tells_if (is_of i.kind l) (fits i.conditions.items l.layer.v && goes_on is ls) (is_vlan l.layer.kind && goes_on (i ∷ is) ls)
    (map masks_of_test (i ∷ is)) (and_then l (met_from (map kind_of_test is) ls)) (if is_vlan l.layer.kind then met_from (map kind_of_test (i ∷ is)) ls else None) (map values_of_test (i ∷ is))
    (tells_layer (fits i.conditions.items l.layer.v) (goes_on is ls) (masks_of_test i) (values_of_test i) l (map masks_of_test is) (map values_of_test is) (met_from (map kind_of_test is) ls)
    (values_where_fits i l single.0) (fits_where_values i l single.0 rise.0) (tells_goes_on is ls single.1 rise.1))
    (tells_and (is_vlan l.layer.kind) (goes_on (i ∷ is) ls) (map masks_of_test (i ∷ is)) (met_from (map kind_of_test (i ∷ is)) ls) (map values_of_test (i ∷ is))
    (tells_goes_on (i ∷ is) ls one rise))

tells_begins : (is : List ItemTest) (ls : List LayerAt) → list_any item_has_range is ≡ false → AllRise is
    → Tells (begins is ls) (option_masked_by (map masks_of_test is) (met_by (map kind_of_test is) ls)) (map values_of_test is)
tells_begins [] ls one rise = record { on = λ e. refl; back = λ e. refl }
tells_begins (i ∷ is) [] one rise = tells_none (map values_of_test (i ∷ is))
tells_begins (i ∷ is) (l ∷ ls) one rise =
    tells_if (is_of i.kind l) (goes_on (i ∷ is) (l ∷ ls)) (not (is_vxlan l.layer.kind) && begins (i ∷ is) ls)
    (map masks_of_test (i ∷ is)) (met_from (map kind_of_test (i ∷ is)) (l ∷ ls)) (if is_vxlan l.layer.kind then None else met_by (map kind_of_test (i ∷ is)) ls) (map values_of_test (i ∷ is))
    (tells_goes_on (i ∷ is) (l ∷ ls) one rise)
    (tells_not (is_vxlan l.layer.kind) (begins (i ∷ is) ls) (map masks_of_test (i ∷ is)) (met_by (map kind_of_test (i ∷ is)) ls) (map values_of_test (i ∷ is))
    (tells_begins (i ∷ is) ls one rise))

accepts_by_shape : (is : List ItemTest) → list_any item_has_range is ≡ false → AllRise is → (ls : List LayerAt)
    → (begins is ls ≡ true → option_masked_by (map masks_of_test is) (met_by (map kind_of_test is) ls) ≡ Some (map values_of_test is))
    × (option_masked_by (map masks_of_test is) (met_by (map kind_of_test is) ls) ≡ Some (map values_of_test is) → begins is ls ≡ true)
accepts_by_shape is one rise ls = let t = tells_begins is ls one rise in (t.on, t.back)

abbrev AcceptsBy : List ItemTest → Shape → Type 0
AcceptsBy test shape = (ls : List LayerAt)
    → (begins test ls ≡ true → numbers_in shape ls ≡ Some shape.values.items) × (numbers_in shape ls ≡ Some shape.values.items → begins test ls ≡ true)

pub shape_accepts : (test items : List ItemTest) (shape : Shape) → items ≡ test → shape ≡ shape_of items → false ≡ list_any item_has_range items → AllRise test
    → (ls : List LayerAt)
    → (begins test ls ≡ true → numbers_in shape ls ≡ Some shape.values.items) × (numbers_in shape ls ≡ Some shape.values.items → begins test ls ≡ true)
shape_accepts test items shape same is one rise =
    let single : list_any item_has_range test ≡ false = sym (one ∙ ap (list_any item_has_range) same) in
    subst (AcceptsBy test) (sym is) (subst (λ (xs : List ItemTest). AcceptsBy test (shape_of xs)) (sym same) (accepts_by_shape test single rise))
