-- Places of a number: those behind a number that is too great make none that is less.
use Rattle.std.proofs.Common.{◌≡◌, ℕ, ◌+◌, ◌*◌, ◌<◌, ◌≤◌, eqb, length, get_or, drop, cond, false, List, [], ◌∷◌, Option, None, Some, refl, arith, ap, ◌∙◌}
use Rattle.std.specs.Option.{option_and_then}
use Rattle.std.proofs.Math.Nat.{mul-le-mul_left}
use Rattle.std.proofs.lemmas.Bool.Decides.{nat_tests}
use Rattle.std.proofs.lemmas.List.{at_drop_more}
use Rattle.std.specs.Char.{digit_value}
use Rattle.rule_words.specs.Number.{number_from, number_in, digit_of, below}

pub below-number_from : {X : Type 0} (limit base n : ℕ) (value_at : X → Option ℕ) (places : List X) → 1 ≤ base → limit ≤ n → below limit (number_from value_at base n places) ≡ None
below-number_from limit base n value_at [] some great = grind (arith, nat_tests)
below-number_from limit base n value_at (place ∷ places) some great =
    elim (value_at place)
    as (λ o. below limit (option_and_then (λ value. number_from value_at base (n * base + value) places) o) ≡ None)
    [ None ↦ refl | Some value ↦ below-number_from limit base (n * base + value) value_at places some (omega (arith, mul-le-mul_left n some)) ]

-- where the place at i takes the number to the limit, there is none below it
pub below-number_at : {X : Type 0} (limit base n i value : ℕ) (value_at : X → Option ℕ) (places : List X) (d : X) → 1 ≤ base → i < length places
    → value_at (get_or places i d) ≡ Some value → limit ≤ n * base + value → below limit (number_from value_at base n (drop i places)) ≡ None
below-number_at limit base n i value value_at places d some within is great =
    at_drop_more (λ ds. below limit (number_from value_at base n ds)) places i d within
    ∙ ap (λ o. below limit (option_and_then (λ value. number_from value_at base (n * base + value) (drop (i + 1) places)) o)) is
    ∙ below-number_from limit base (n * base + value) value_at (drop (i + 1) places) some great

-- a digit with its value
pub digit_of-is : (base digit value : ℕ) → (digit_value digit < base) × (digit_value digit ≡ value) → digit_of base digit ≡ Some value
digit_of-is base digit value is = grind (arith, nat_tests)

-- of two limits the lower one counts
pub below-below : (limit great : ℕ) (o : Option ℕ) → limit ≤ great → below limit (below great o) ≡ below limit o
below-below limit great None less = refl
below-below limit great (Some n) less = grind (arith, nat_tests)

-- a number that isn't below a limit
pub great-from_below : (limit n : ℕ) → None ≡ below limit (Some n) → limit ≤ n
great-from_below limit n none = grind (arith, nat_tests)

-- one or more digits
pub number_in-some : (base : ℕ) (digits : List ℕ) → eqb (length digits) 0 ≡ false → number_in base digits ≡ number_from (digit_of base) base 0 digits
number_in-some base digits some = ap (λ b. cond b None (number_from (digit_of base) base 0 digits)) some

-- a number below a limit
pub below-small : (limit n : ℕ) → n < limit → below limit (Some n) ≡ Some n
below-small limit n small = grind (arith, nat_tests)
