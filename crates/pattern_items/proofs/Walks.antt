-- The walk layer by layer is the match.
use Rattle.std.proofs.Common.{◌≡◌, ℕ, ◌+◌, ◌≤◌, zero, suc, Bool, true, false, ◌&&◌, not, nat_eq, length, drop, List, [], ◌∷◌, ◌++◌, Option, None, Some, refl, ◌∙◌, ap, arith, length-drop, if◌then◌else◌, eq-eqb, add-one}
use Rattle.std.proofs.lemmas.Bool.{ne_eqb}
use Rattle.std.specs.List.{slice_get}
use Rattle.packet_headers.specs.declared.items.LayerAt.{LayerAt}
use Rattle.pattern_items.specs.declared.test.ItemTest.{ItemTest}
use Rattle.pattern_items.specs.Conditions.{fits}
use Rattle.pattern_items.specs.Order.{is_vlan, is_vxlan}
use Rattle.packet_headers.specs.Key.{is_of}
use Rattle.pattern_items.specs.Matches.{goes_on, begins}
use Rattle.pattern_items.specs.Walk.{meet_any, walk_by, walk, all_met}

module _ {Way : Type 0} where
  -- a walk over some layers, and then over more
  pub walk_append : (by : Way → LayerAt → Option Way) (way : Option Way) (a b : List LayerAt) → walk_by by way (a ++ b) ≡ walk_by by (walk_by by way a) b
  walk_append by None a b = refl
  walk_append by (Some way) [] b = refl
  walk_append by (Some way) (l ∷ a) b = walk_append by (by way l) a b

  -- where no layer changes the way it stays
  pub walk_done : (by : Way → LayerAt → Option Way) (way : Way) (ls : List LayerAt) → ((l : LayerAt) → by way l ≡ Some way) → walk_by by (Some way) ls ≡ Some way
  walk_done by way [] done = refl
  walk_done by way (l ∷ ls) done = ap (λ x. walk_by by x ls) (done l) ∙ walk_done by way ls done

-- the things of a list that are still to be met
module _ {T : Type 0} where
  abbrev pub first_of : List T → Option T
  first_of [] = None
  first_of (x ∷ xs) = Some x

  abbrev pub rest_of : List T → List T
  rest_of [] = []
  rest_of (x ∷ xs) = xs

  pub at_hand : (xs : List T) (met : ℕ) → slice_get xs met ≡ first_of (drop met xs)
  at_hand [] zero = refl
  at_hand [] (suc n) = refl
  at_hand (x ∷ xs) zero = refl
  at_hand (x ∷ xs) (suc n) = at_hand xs n

  pub behind : (xs : List T) (met : ℕ) → drop (suc met) xs ≡ rest_of (drop met xs)
  behind [] zero = refl
  behind [] (suc n) = refl
  behind (x ∷ xs) zero = refl
  behind (x ∷ xs) (suc n) = behind xs n

  pub room_left : (xs rest : List T) (x : T) (met : ℕ) → drop met xs ≡ x ∷ rest → met + 1 ≤ length xs
  room_left xs rest x met e = omega (arith, length-drop met xs, ap length e)

abbrev is_empty : List ItemTest → Bool
is_empty [] = true
is_empty (i ∷ is) = false

at_end : (items rest : List ItemTest) (met : ℕ) → drop met items ≡ rest → met ≤ length items → nat_eq met (length items) ≡ is_empty rest
at_end items [] met e le = eq-eqb met (length items) (omega (arith, length-drop met items, ap length e))
at_end items (i ∷ is) met e le = ne_eqb met (length items) (λ same. omega (arith, length-drop met items, ap length e))

-- one layer, behind the first item's layer
going_on : (items : List ItemTest) (ls : List LayerAt) (met : ℕ) (k f z n v g h : Bool) → z ≡ false
    → all_met items (walk items (Some (met + 1)) ls) ≡ g → all_met items (walk items (Some met) ls) ≡ h
    → all_met items (walk items (if k then (if f then Some (met + 1) else None) else (if (if z then n else v) then Some met else None)) ls)
    ≡ (if k then f && g else v && h)
going_on items ls met true true z n v g h e p q = p
going_on items ls met true false z n v g h e p q = refl
going_on items ls met false f true n v g h e p q = cc
going_on items ls met false f false n true g h e p q = q
going_on items ls met false f false n false g h e p q = refl

-- one layer, in front of it
beginning : (items : List ItemTest) (ls : List LayerAt) (met : ℕ) (k f n v w g h : Bool)
    → all_met items (walk items (Some (met + 1)) ls) ≡ g → all_met items (walk items (Some met) ls) ≡ h
    → all_met items (walk items (if k then (if f then Some (met + 1) else None) else (if n then Some met else None)) ls)
    ≡ (if k then (if k then f && g else w) else n && h)
beginning items ls met true true n v w g h p q = p
beginning items ls met true false n v w g h p q = refl
beginning items ls met false f true v w g h p q = q
beginning items ls met false f false v w g h p q = refl

walk_goes_on : (items rest : List ItemTest) (met : ℕ) (ls : List LayerAt) → drop met items ≡ rest → met ≤ length items → nat_eq met 0 ≡ false
    → all_met items (walk items (Some met) ls) ≡ goes_on rest ls
walk_goes_on items [] met [] e le z = at_end items [] met e le
walk_goes_on items (i ∷ is) met [] e le z = at_end items (i ∷ is) met e le
walk_goes_on items [] met (l ∷ ls) e le z =
    ap (λ x. all_met items (walk items (meet_any x met l) ls)) (at_hand items met ∙ ap first_of e) ∙ walk_goes_on items [] met ls e le z
walk_goes_on items (i ∷ is) met (l ∷ ls) e le z =
    ap (λ x. all_met items (walk items (meet_any x met l) ls)) (at_hand items met ∙ ap first_of e)
    ∙ going_on items ls met (is_of i.kind l) (fits i.conditions.items l.layer.v) (nat_eq met 0) (not (is_vxlan l.layer.kind)) (is_vlan l.layer.kind) (goes_on is ls) (goes_on (i ∷ is) ls) z
    (walk_goes_on items is (met + 1) ls (rw add-one (behind items met ∙ ap rest_of e)) (room_left items is i met e) (ne_eqb (met + 1) 0 (λ same. omega arith)))
    (walk_goes_on items (i ∷ is) met ls e le z)

walk_begins : (items : List ItemTest) (ls : List LayerAt) → all_met items (walk items (Some 0) ls) ≡ begins items ls
walk_begins [] [] = refl
walk_begins (i ∷ is) [] = at_end (i ∷ is) (i ∷ is) 0 refl (omega arith)
walk_begins [] (l ∷ ls) = walk_begins [] ls
walk_begins (i ∷ is) (l ∷ ls) =
    beginning (i ∷ is) ls 0 (is_of i.kind l) (fits i.conditions.items l.layer.v) (not (is_vxlan l.layer.kind)) (is_vlan l.layer.kind) (is_vlan l.layer.kind && goes_on (i ∷ is) ls) (goes_on is ls) (begins (i ∷ is) ls)
    (walk_goes_on (i ∷ is) is 1 ls refl (omega arith) refl)
    (walk_begins (i ∷ is) ls)

-- a walk that meets all items is a match
pub begins_walk : (items : List ItemTest) (ls : List LayerAt) (walked : Option ℕ) → walked ≡ walk items (Some 0) ls → all_met items walked ≡ begins items ls
begins_walk items ls walked e = ap (all_met items) e ∙ walk_begins items ls
