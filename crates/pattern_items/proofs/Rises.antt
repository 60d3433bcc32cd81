-- What the items of a pattern ask is on fields in rising order.
use Rattle.std.proofs.Common.{ℕ, ◌+◌, ◌≤◌, zero, suc, List, [], ◌∷◌, map, length, Option, None, Some, arith}
use Rattle.std.proofs.lemmas.Bool.{cond_both}
use Rattle.std.specs.List.{filter, range_with_len}
use Rattle.packet_headers.specs.Fields.{fields_of}
use Rattle.pattern_items.specs.declared.pattern.Fields.{Fields}
use Rattle.pattern_items.specs.declared.pattern.Item.{Item}
use Rattle.pattern_items.specs.declared.test.Condition.{Condition}
use Rattle.pattern_items.specs.Conditions.{asks, condition, conditions_with, lasts_of, masks_of}
use Rattle.pattern_items.specs.Matches.{item_test, is_asked, tests_of}
use Rattle.pattern_items.specs.Rising.{Rise, AllRise}
use Rattle.pattern_items.proofs.FieldLists.{few}

rise_later : (a b : ℕ) (cs : List Condition) → a ≤ b → Rise b cs → Rise a cs
rise_later a b [] h r = tt
rise_later a b (c ∷ cs) h r = (omega (arith, r.0), r.1, r.2)

range_rises : (given last mask : List ℕ) (a n : ℕ) → a + n ≤ 6 → Rise a (filter asks (map (condition given last mask) (range_with_len a n)))
range_rises given last mask a zero h = tt
range_rises given last mask a (suc n) h =
    let rest = filter asks (map (condition given last mask) (range_with_len (a + 1) n)) in
    let r = range_rises given last mask (a + 1) n (omega arith) in
    cond_both (asks (condition given last mask a)) _ _ (Rise a) (λ _. (omega arith, omega arith, r)) (λ _. rise_later a (a + 1) rest (omega arith) r)

conditions_rise : (item : Item) (given : Option Fields) → Rise 0 (elim given [ None ↦ [] | Some fields ↦ conditions_with item.kind fields.v (lasts_of item) (masks_of item) ])
conditions_rise item None = tt
conditions_rise item (Some fields) = range_rises fields.v (lasts_of item) (masks_of item) 0 (length (fields_of item.kind)) (let h = few item.kind in omega arith)

pub tests_rise : (items : List Item) → AllRise (tests_of items)
tests_rise [] = tt
tests_rise (item ∷ items) =
    cond_both (is_asked item) _ _ (λ (xs : List Item). AllRise (map item_test xs))
    (λ _. (conditions_rise item item.given, tests_rise items))
    (λ _. tests_rise items)
