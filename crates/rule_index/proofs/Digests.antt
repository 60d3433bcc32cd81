-- The walk of a digest gives the digest of the numbers.
use Rattle.std.proofs.Common.{◌≡◌, ℕ, ◌+◌, ◌≤◌, Bool, true, false, nat_eq, length, drop, map, List, [], ◌∷◌, Option, None, Some, refl, ◌∙◌, ap, arith, length-drop, if◌then◌else◌, eq-eqb, add-one, not}
use Rattle.std.proofs.lemmas.Bool.{ne_eqb}
use Rattle.std.specs.Option.{option_map}
use Rattle.packet_headers.specs.declared.items.LayerAt.{LayerAt}
use Rattle.pattern_items.specs.declared.pattern.Fields.{Fields}
use Rattle.packet_headers.specs.Key.{is_of}
use Rattle.pattern_items.specs.Order.{is_vlan, is_vxlan}
use Rattle.pattern_items.proofs.Walks.{walk_done, first_of, rest_of, at_hand, behind, room_left}
use Rattle.pattern_items.specs.Shape.{masked_by, option_masked_by, met_from, met_by, and_then}
use Rattle.rule_index.specs.declared.line.ShapeLine.{ShapeLine}
use Rattle.rule_index.specs.declared.digest.DigestWay.{DigestWay}
use Rattle.rule_index.specs.Lines.{kind_in, masks_in}
use Rattle.rule_index.specs.DigestEnd.{all_are_met}
use Rattle.rule_index.specs.Digest.{mix_fields, mix_all, digest_by, way, meet_any, step, walk, ended}

not_ended : (lines is : List ShapeLine) (i : ShapeLine) (met d : ℕ) → drop met lines ≡ i ∷ is → ended lines (Some (way met d)) ≡ None
not_ended lines is i met d e = ap (λ b. if b then Some d else None) (ne_eqb met (length lines) (λ same. omega (arith, length-drop met lines, ap length e)))

all_ended : (lines : List ShapeLine) (met d : ℕ) → drop met lines ≡ [] → met ≤ length lines → (met ≡ length lines) × (ended lines (Some (way met d)) ≡ Some d)
all_ended lines met d e le =
    let same : met ≡ length lines = omega (arith, length-drop met lines, ap length e) in
    (same, ap (λ b. if b then Some d else None) (eq-eqb met (length lines) same))

-- the digest of what is still to come
abbrev digest_of : Bool → List ShapeLine → ℕ → Option (List LayerAt) → Option ℕ
digest_of exact rest d met = option_map (λ (ns : List Fields). mix_all exact (map masks_in rest) ns d) (option_masked_by (map masks_in rest) met)

met_more : (exact : Bool) (i : ShapeLine) (is : List ShapeLine) (d : ℕ) (l : LayerAt) (o : Option (List LayerAt))
    → digest_of exact is (mix_fields exact i.masks (masked_by i.masks l) d) o ≡ digest_of exact (i ∷ is) d (and_then l o)
met_more exact i is d l None = refl
met_more exact i is d l (Some ls) = refl

stays : (exact : Bool) (lines : List ShapeLine) (met d : ℕ) (ls : List LayerAt) → drop met lines ≡ [] → met ≤ length lines → ended lines (walk exact lines (Some (way met d)) ls) ≡ Some d
stays exact lines met d ls e le =
    let h = all_ended lines met d e le in
    ap (ended lines) (walk_done (step exact lines) (way met d) ls (λ l. all_are_met exact lines (way met d) l (eq-eqb met (length lines) h.0))) ∙ h.1

-- one layer, behind the first line's layer
going : (exact : Bool) (lines : List ShapeLine) (ls : List LayerAt) (w next : DigestWay) (k z n v : Bool) (r r' : Option ℕ) → z ≡ false
    → ended lines (walk exact lines (Some next) ls) ≡ r → ended lines (walk exact lines (Some w) ls) ≡ r'
    → ended lines (walk exact lines (if k then Some next else (if (if z then n else v) then Some w else None)) ls) ≡ (if k then r else (if v then r' else None))
going exact lines ls w next true z n v r r' e p q = p
going exact lines ls w next false true n v r r' e p q = cc
going exact lines ls w next false false n true r r' e p q = q
going exact lines ls w next false false n false r r' e p q = refl

-- one layer, in front of it
beginning : (exact : Bool) (lines : List ShapeLine) (ls : List LayerAt) (w next : DigestWay) (k x : Bool) (r r' : Option ℕ)
    → ended lines (walk exact lines (Some next) ls) ≡ r → ended lines (walk exact lines (Some w) ls) ≡ r'
    → ended lines (walk exact lines (if k then Some next else (if not x then Some w else None)) ls) ≡ (if k then r else (if x then None else r'))
beginning exact lines ls w next true x r r' p q = p
beginning exact lines ls w next false true r r' p q = refl
beginning exact lines ls w next false false r r' p q = q

digest_if : (exact : Bool) (rest : List ShapeLine) (d : ℕ) (k v : Bool) (a b : Option (List LayerAt))
    → (if k then digest_of exact rest d a else (if v then digest_of exact rest d b else None)) ≡ digest_of exact rest d (if k then a else (if v then b else None))
digest_if exact rest d true v a b = refl
digest_if exact rest d false true a b = refl
digest_if exact rest d false false a b = refl

digest_unless : (exact : Bool) (rest : List ShapeLine) (d : ℕ) (k v : Bool) (a b : Option (List LayerAt))
    → (if k then digest_of exact rest d a else (if v then None else digest_of exact rest d b)) ≡ digest_of exact rest d (if k then a else (if v then None else b))
digest_unless exact rest d true v a b = refl
digest_unless exact rest d false true a b = refl
digest_unless exact rest d false false a b = refl

abbrev next_way : Bool → ShapeLine → LayerAt → ℕ → ℕ → DigestWay
next_way exact i l met d = way (met + 1) (mix_fields exact i.masks (masked_by i.masks l) d)

goes_numbers : (exact : Bool) (lines rest : List ShapeLine) (met d : ℕ) (ls : List LayerAt) → drop met lines ≡ rest → met ≤ length lines → nat_eq met 0 ≡ false
    → ended lines (walk exact lines (Some (way met d)) ls) ≡ digest_of exact rest d (met_from (map kind_in rest) ls)
goes_numbers exact lines [] met d ls e le z = stays exact lines met d ls e le
goes_numbers exact lines (i ∷ is) met d [] e le z = not_ended lines is i met d e
goes_numbers exact lines (i ∷ is) met d (l ∷ ls) e le z =
    ap (λ x. ended lines (walk exact lines (meet_any exact x (way met d) l) ls)) (at_hand lines met ∙ ap first_of e)
    ∙ going exact lines ls (way met d) (next_way exact i l met d) (is_of i.kind l) (nat_eq met 0) (not (is_vxlan l.layer.kind)) (is_vlan l.layer.kind)
    (digest_of exact (i ∷ is) d (and_then l (met_from (map kind_in is) ls))) (digest_of exact (i ∷ is) d (met_from (map kind_in (i ∷ is)) ls)) z
    (goes_numbers exact lines is (met + 1) (mix_fields exact i.masks (masked_by i.masks l) d) ls (rw add-one (behind lines met ∙ ap rest_of e)) (room_left lines is i met e) (ne_eqb (met + 1) 0 (λ same. omega arith))
    ∙ met_more exact i is d l (met_from (map kind_in is) ls))
    (goes_numbers exact lines (i ∷ is) met d ls e le z)
    ∙ digest_if exact (i ∷ is) d (is_of i.kind l) (is_vlan l.layer.kind) (and_then l (met_from (map kind_in is) ls)) (met_from (map kind_in (i ∷ is)) ls)

begins_rest : (exact : Bool) (i : ShapeLine) (is : List ShapeLine) (l : LayerAt) (ls : List LayerAt) (k : Bool) → is_of i.kind l ≡ k
    → digest_of exact (i ∷ is) 0 (if k then and_then l (met_from (map kind_in is) ls) else (if is_vxlan l.layer.kind then None else met_by (map kind_in (i ∷ is)) ls))
    ≡ digest_of exact (i ∷ is) 0 (if k then met_from (map kind_in (i ∷ is)) (l ∷ ls) else (if is_vxlan l.layer.kind then None else met_by (map kind_in (i ∷ is)) ls))
begins_rest exact i is l ls true e =
    ap (λ b. digest_of exact (i ∷ is) 0 (if b then and_then l (met_from (map kind_in is) ls) else (if is_vlan l.layer.kind then met_from (map kind_in (i ∷ is)) ls else None))) (sym_of e) where
      sym_of : is_of i.kind l ≡ true → true ≡ is_of i.kind l
      sym_of h = cc
begins_rest exact i is l ls false e = refl

begins_numbers : (exact : Bool) (lines : List ShapeLine) (ls : List LayerAt) → ended lines (walk exact lines (Some (way 0 0)) ls) ≡ digest_of exact lines 0 (met_by (map kind_in lines) ls)
begins_numbers exact [] ls = stays exact [] 0 0 ls refl (omega arith)
begins_numbers exact (i ∷ is) [] = not_ended (i ∷ is) is i 0 0 refl
begins_numbers exact (i ∷ is) (l ∷ ls) =
    beginning exact (i ∷ is) ls (way 0 0) (next_way exact i l 0 0) (is_of i.kind l) (is_vxlan l.layer.kind)
    (digest_of exact (i ∷ is) 0 (and_then l (met_from (map kind_in is) ls))) (digest_of exact (i ∷ is) 0 (met_by (map kind_in (i ∷ is)) ls))
    (goes_numbers exact (i ∷ is) is 1 (mix_fields exact i.masks (masked_by i.masks l) 0) ls refl (omega arith) refl ∙ met_more exact i is 0 l (met_from (map kind_in is) ls))
    (begins_numbers exact (i ∷ is) ls)
    ∙ digest_unless exact (i ∷ is) 0 (is_of i.kind l) (is_vxlan l.layer.kind) (and_then l (met_from (map kind_in is) ls)) (met_by (map kind_in (i ∷ is)) ls)
    ∙ begins_rest exact i is l ls (is_of i.kind l) refl

pub walk_numbers : (exact : Bool) (lines : List ShapeLine) (ls : List LayerAt) → ended lines (walk exact lines (Some (way 0 0)) ls) ≡ digest_by exact lines ls
walk_numbers exact lines ls = begins_numbers exact lines ls
