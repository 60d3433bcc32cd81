-- Groups of an address, one after the other.
use Rattle.std.proofs.Common.{◌≡◌, ℕ, ◌+◌, ◌*◌, ◌^◌, ◌<◌, ◌≤◌, leb, cond, true, false, List, length, drop, get_or, Option, None, Some, refl, arith, ap, ◌∙◌, lit<}
use Rattle.std.specs.Option.{option_and_then, option_map}
use Rattle.std.proofs.Math.Nat.{pow-le-pow_right}
use Rattle.std.proofs.lemmas.List.{at_drop_more}
use Rattle.std.proofs.lemmas.Bool.{le-leb}
use Rattle.std.proofs.lemmas.Bool.Decides.{nat_tests}
use Rattle.rule_words.specs.declared.address.Address.{Address}
use Rattle.rule_words.specs.declared.address.Address.TheVariants as address
use Rattle.rule_words.specs.declared.address.Groups.{Groups}
use Rattle.rule_words.specs.Number.{number_from}
use Rattle.rule_words.specs.Address.{width_of, factor_of, most_groups, number_of_groups, groups_read}

-- the place at i goes into the number
pub number_from-some : {X : Type 0} (value_at : X → Option ℕ) (base n i value : ℕ) (places : List X) (d : X) → i < length places
    → value_at (get_or places i d) ≡ Some value → number_from value_at base n (drop i places) ≡ number_from value_at base (n * base + value) (drop (i + 1) places)
number_from-some value_at base n i value places d within is =
    at_drop_more (number_from value_at base n) places i d within
    ∙ ap (option_and_then (λ v. number_from value_at base (n * base + v) (drop (i + 1) places))) is

-- the place at i has no value
pub number_from-none : {X : Type 0} (value_at : X → Option ℕ) (base n i : ℕ) (places : List X) (d : X) → i < length places
    → value_at (get_or places i d) ≡ None → number_from value_at base n (drop i places) ≡ None
number_from-none value_at base n i places d within is =
    at_drop_more (number_from value_at base n) places i d within
    ∙ ap (option_and_then (λ v. number_from value_at base (n * base + v) (drop (i + 1) places))) is

abbrev counted : Address → List (List ℕ) → Option ℕ → Option Groups
counted a groups o = option_map (λ value. record { count = length groups; value = value }) o

pub groups_read-many : (a : Address) (groups : List (List ℕ)) → most_groups a < length groups → groups_read a groups ≡ None
groups_read-many a groups many = grind (arith, nat_tests)

pub groups_read-none : (a : Address) (groups : List (List ℕ)) → number_of_groups a groups ≡ None → groups_read a groups ≡ None
groups_read-none a groups none =
    ap (λ o. cond (leb (length groups) (most_groups a)) (counted a groups o) None) none
    ∙ elim (leb (length groups) (most_groups a)) as (λ b. cond b (counted a groups None) None ≡ None) [ true ↦ refl | false ↦ refl ]

pub groups_read-all : (a : Address) (groups : List (List ℕ)) (value : ℕ) → length groups ≤ most_groups a → number_of_groups a groups ≡ Some value
    → groups_read a groups ≡ Some (record { count = length groups; value = value })
groups_read-all a groups value few is =
    ap (λ o. cond (leb (length groups) (most_groups a)) (counted a groups o) None) is
    ∙ ap (λ b. cond b (counted a groups (Some value)) None) (le-leb (length groups) (most_groups a) few)

-- what has no more groups than a whole address has at most 128 bits
pub power-le : (a : Address) (count : ℕ) → count ≤ most_groups a → factor_of a ^ count ≤ 2 ^ 128
power-le address.Mac count few = let most : 256 ^ count ≤ 256 ^ 6 = pow-le-pow_right (lit< tt) few in omega (arith, most)
power-le address.Ip4 count few = let most : 256 ^ count ≤ 256 ^ 4 = pow-le-pow_right (lit< tt) few in omega (arith, most)
power-le address.Ip6 count few = let most : 65536 ^ count ≤ 65536 ^ 8 = pow-le-pow_right (lit< tt) few in omega (arith, most)

pub factor-some : (a : Address) → 0 < factor_of a
factor-some address.Mac = lit< tt
factor-some address.Ip4 = lit< tt
factor-some address.Ip6 = lit< tt

-- a whole address has the bits of its width
pub power-is : (a : Address) → factor_of a ^ most_groups a ≡ 2 ^ width_of a
power-is address.Mac = refl
power-is address.Ip4 = refl
power-is address.Ip6 = refl
