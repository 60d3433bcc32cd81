-- Ids that are read have so many bits at most.
use Rattle.std.proofs.Common.{◌≡◌, ℕ, ◌<◌, ◌≤◌, ◌^◌, Bool, cond, true, false, nat_lt, nat_le, List, [], ◌∷◌, length, get_or, zero, suc, Option, None, Some, refl, arith, subst, sym, ap, ◌∙◌}
use Rattle.std.specs.Prelude.{◌&&◌}
use Rattle.std.specs.Option.{option_and_then}
use Rattle.std.specs.Str.{bytes_eq}
use Rattle.std.proofs.lemmas.Bool.{leb-true}
use Rattle.std.proofs.lemmas.Bool.Decides.{nat_tests}
use Rattle.rule_words.specs.Number.{number_of, number_of_bits, below}
use Rattle.rule_words.specs.Ids.{ids_in_front, ids_of, AreBelow}
use Rattle.rule_words.proofs.IdSteps.{with_id}
use Rattle.rule_words.proofs.TurnsWritten.{on_some, on_map}

below-limit : (limit n : ℕ) (o : Option ℕ) → below limit o ≡ Some n → n < limit
below-limit limit n None is = absurd cc
below-limit limit n (Some m) is =
    elim (nat_lt m limit) as (λ t. nat_lt m limit ≡ t → cond t (Some m) None ≡ Some n → n < limit) [
      | true ↦ λ less e. let same : m ≡ n = cc in subst (λ k. k < limit) same (grind (arith, nat_tests, less))
      | false ↦ λ more e. absurd cc
    ] refl is

-- what is given as one, is one
same-ids : (p q : List ℕ × List (List ℕ)) → Some p ≡ Some q → p.0 ≡ q.0
same-ids p q is = let same : p ≡ q = cc in ap (λ (r : List ℕ × List (List ℕ)). r.0) same

abbrev behind : ℕ → List ℕ × List (List ℕ) → List ℕ × List (List ℕ)
behind id read = (id ∷ read.0, read.1)

not-read : (p : List ℕ × List (List ℕ)) → None ≡ Some p → ⊥
not-read p is = cc

in-front-below : (name : List ℕ) (bits : ℕ) (words : List (List ℕ)) (ids : List ℕ) (rest : List (List ℕ)) → ids_in_front name bits words ≡ Some (ids, rest) → AreBelow (2 ^ bits) ids
in-front-below name bits [] ids rest is = subst (AreBelow (2 ^ bits)) (same-ids ([], []) (ids, rest) is) tt
in-front-below name bits (word ∷ []) ids rest is =
    elim (bytes_eq word name) as (λ t. cond {A = Option (List ℕ × List (List ℕ))} t None (Some ([], word ∷ [])) ≡ Some (ids, rest) → AreBelow (2 ^ bits) ids) [
      | true ↦ λ e. absurd (not-read (ids, rest) e)
      | false ↦ λ e. subst (AreBelow (2 ^ bits)) (same-ids ([], word ∷ []) (ids, rest) e) tt
    ] is
in-front-below name bits (word ∷ value ∷ others) ids rest is =
    elim (bytes_eq word name)
    as (λ t. cond t (option_and_then (λ id. with_id id (ids_in_front name bits others)) (number_of_bits bits value))
    (Some ([], word ∷ value ∷ others)) ≡ Some (ids, rest) → AreBelow (2 ^ bits) ids) [
      | true ↦ λ e.
          let id = on_some (number_of_bits bits value) (λ id. with_id id (ids_in_front name bits others)) (ids, rest) e in
          let read = on_map (ids_in_front name bits others) (behind id.0) (ids, rest) id.2 in
          let all : id.0 ∷ read.0.0 ≡ ids = ap (λ (p : List ℕ × List (List ℕ)). p.0) read.2 in
          subst (AreBelow (2 ^ bits)) all (below-limit (2 ^ bits) id.0 (number_of value) id.1, in-front-below name bits others read.0.0 read.0.1 read.1)
      | false ↦ λ e. subst (AreBelow (2 ^ bits)) (same-ids ([], word ∷ value ∷ others) (ids, rest) e) tt
    ] is

pub ids-below : (name : List ℕ) (bits most : ℕ) (words : List (List ℕ)) (ids : List ℕ) (rest : List (List ℕ)) → Some (ids, rest) ≡ ids_of name bits most words → AreBelow (2 ^ bits) ids
ids-below name bits most words ids rest is =
    let tested : List ℕ × List (List ℕ) → Option (List ℕ × List (List ℕ)) = λ read. cond (nat_le 1 (length read.0) && nat_le (length read.0) most) (Some read) None in
    let read = on_some (ids_in_front name bits words) tested (ids, rest) (sym is) in
    elim (nat_le 1 (length read.0.0) && nat_le (length read.0.0) most) as (λ t. cond t (Some read.0) None ≡ Some (ids, rest) → AreBelow (2 ^ bits) ids) [
      | true ↦ λ e. let same : read.0 ≡ (ids, rest) = cc in
          in-front-below name bits words ids rest (read.1 ∙ ap (λ p. Some p) same)
      | false ↦ λ e. absurd (not-read (ids, rest) e)
    ] read.2

-- and there are so many of them at most
pub ids-most : (name : List ℕ) (bits most : ℕ) (words : List (List ℕ)) (ids : List ℕ) (rest : List (List ℕ)) → Some (ids, rest) ≡ ids_of name bits most words → length ids ≤ most
ids-most name bits most words ids rest is =
    let tested : List ℕ × List (List ℕ) → Option (List ℕ × List (List ℕ)) = λ read. cond (nat_le 1 (length read.0) && nat_le (length read.0) most) (Some read) None in
    let read = on_some (ids_in_front name bits words) tested (ids, rest) (sym is) in
    by read.0 (nat_le 1 (length read.0.0)) (nat_le (length read.0.0) most) refl read.2 where
      by : (p : List ℕ × List (List ℕ)) (some few : Bool) → nat_le (length p.0) most ≡ few → cond (some && few) (Some p) None ≡ Some (ids, rest) → length ids ≤ most
      by p true true few e = subst (λ (l : List ℕ). length l ≤ most) (same-ids p (ids, rest) e) (leb-true (length p.0) most few)
      by p true false few e = absurd (not-read (ids, rest) e)
      by p false few f e = absurd (not-read (ids, rest) e)

-- the id at a place
pub below-at : (limit : ℕ) (ids : List ℕ) (i d : ℕ) → AreBelow limit ids → i < length ids → get_or ids i d < limit
below-at limit [] i d all within = absurd (omega (arith, within))
below-at limit (n ∷ ns) zero d all within = all.0
below-at limit (n ∷ ns) (suc i) d all within = below-at limit ns i d all.1 (omega (arith, within))
