-- How great the number is that places make.
use Rattle.std.proofs.Common.{◌≡◌, ℕ, ◌+◌, ◌*◌, ◌^◌, ◌<◌, ◌≤◌, eqb, leb, ltb, cond, true, false, Bool, List, [], ◌∷◌, length, Option, None, Some, IfSome, refl, arith, sym, ap, ◌∙◌, add-one, suc, lit<}
use Rattle.std.specs.Option.{option_and_then}
use Rattle.std.proofs.Math.Nat.{mul-le-mul_right, pow-suc, pow-succ', pow-zero, mul_assoc, mul-one, pow-le-pow_right}
use Rattle.std.proofs.lemmas.Nat.{mul-add-lt}
use Rattle.std.proofs.lemmas.Bool.{le-leb, leb-true}
use Rattle.std.proofs.lemmas.Bool.Decides.{nat_tests}
use Rattle.std.specs.Char.{digit_value}
use Rattle.rule_words.specs.Number.{number_from, number_in, digit_of, below}
use Rattle.rule_words.specs.Address.{hexadecimal}

-- one more place
pub place-lt : (base count n place : ℕ) → n < base ^ count → place < base → n * base + place < base ^ (count + 1)
place-lt base count n place small within =
    let bound = mul-add-lt n base place (base ^ count) small within in
    let power : base ^ (count + 1) ≡ base * base ^ count = ap (λ k. base ^ k) (add-one count) ∙ pow-succ' base count in
    omega (arith, bound, power)

-- a number with one more place of 0 behind it
pub moved_again : (n base count moved : ℕ) → moved ≡ n * base ^ count → moved * base ≡ n * base ^ (count + 1)
moved_again n base count moved is =
    let power : base ^ (count + 1) ≡ base ^ count * base = ap (λ k. base ^ k) (add-one count) ∙ pow-suc base count in
    ap (λ m. m * base) is ∙ mul_assoc n (base ^ count) base ∙ ap (λ m. n * m) (sym power)

-- a fact of the value, if there is one
pub IfSome-weaker : {X : Type 0} (o : Option X) (P Q : X → Type 0) → ((x : X) → P x → Q x) → IfSome o P → IfSome o Q
IfSome-weaker None P Q weaker h = tt
IfSome-weaker (Some x) P Q weaker h = weaker x h

-- the test of a digit
digit_in_base : (b : Bool) (base value : ℕ) → ltb value base ≡ b → IfSome (cond b (Some value) None) (λ v. v < base)
digit_in_base true base value is = grind (arith, nat_tests)
digit_in_base false base value is = tt

pub digit-lt : (base digit : ℕ) → IfSome (digit_of base digit) (λ v. v < base)
digit-lt base digit = digit_in_base (ltb (digit_value digit) base) base (digit_value digit) refl

-- one more digit in front
longer : (base n v m count : ℕ) → v < base → m < (n * base + v + 1) * base ^ count → m < (n + 1) * base ^ suc count
longer base n v m count within less =
    let step : n * base + v + 1 ≤ (n + 1) * base = omega (arith, within) in
    let bound : (n * base + v + 1) * base ^ count ≤ (n + 1) * base * base ^ count = mul-le-mul_right (base ^ count) step in
    let power : (n + 1) * base ^ suc count ≡ (n + 1) * (base * base ^ count) = ap (λ q. (n + 1) * q) (pow-succ' base count) in
    omega (arith, less, bound, power, mul_assoc (n + 1) base (base ^ count))

-- the number that digits make behind another
pub number_from-lt : (base n : ℕ) (digits : List ℕ) → IfSome (number_from (digit_of base) base n digits) (λ m. m < (n + 1) * base ^ length digits)
number_from-lt base n [] =
    let power : base ^ 0 ≡ 1 = pow-zero base in
    omega (arith, mul-one (n + 1), ap (λ m. (n + 1) * m) power)
number_from-lt base n (digit ∷ digits) =
    elim (digit_of base digit)
    as (λ o. IfSome o (λ v. v < base) → IfSome (option_and_then (λ v. number_from (digit_of base) base (n * base + v) digits) o) (λ m. m < (n + 1) * base ^ length (digit ∷ digits))) [
      | None ↦ λ within. tt
      | Some v ↦ λ within. IfSome-weaker (number_from (digit_of base) base (n * base + v) digits) _ _
          (λ m less. longer base n v m (length digits) within less) (number_from-lt base (n * base + v) digits)
    ] (digit-lt base digit)

-- one or more digits
pub number_in-lt : (base : ℕ) (digits : List ℕ) → IfSome (number_in base digits) (λ m. m < base ^ length digits)
number_in-lt base digits =
    elim (eqb (length digits) 0)
    as (λ b. IfSome (cond b None (number_from (digit_of base) base 0 digits)) (λ m. m < base ^ length digits)) [
      | true ↦ tt
      | false ↦ IfSome-weaker (number_from (digit_of base) base 0 digits) _ _ (λ m less. omega (arith, less)) (number_from-lt base 0 digits)
    ]

-- a limit above all of a number
pub below-all : (limit : ℕ) (o : Option ℕ) → IfSome o (λ n. n < limit) → below limit o ≡ o
below-all limit None small = refl
below-all limit (Some n) small = grind (arith, nat_tests)

-- a few hexadecimal digits
pub hexadecimal-is : (most : ℕ) (text : List ℕ) → length text ≤ most → most ≤ 4 → below (2 ^ 128) (number_in 16 text) ≡ hexadecimal most text
hexadecimal-is most text few short =
    let few_more : length text ≤ 4 = omega arith in
    let power : 16 ^ length text ≤ 16 ^ 4 = pow-le-pow_right (lit< tt) few_more in
    let small : IfSome (number_in 16 text) (λ n. n < 2 ^ 128) = IfSome-weaker (number_in 16 text) _ _ (λ n less. omega (arith, less, power)) (number_in-lt 16 text) in
    below-all (2 ^ 128) (number_in 16 text) small ∙ ap (λ b. cond b (number_in 16 text) None) (sym (le-leb (length text) most few))

few_digits : (b : Bool) (most : ℕ) (text : List ℕ) → leb (length text) most ≡ b → IfSome (cond b (number_in 16 text) None) (λ n. n < 16 ^ most)
few_digits false most text is = tt
few_digits true most text is =
    let few : length text ≤ most = leb-true (length text) most is in
    let power : 16 ^ length text ≤ 16 ^ most = pow-le-pow_right (lit< tt) few in
    IfSome-weaker (number_in 16 text) _ _ (λ n less. omega (arith, less, power)) (number_in-lt 16 text)

pub hexadecimal-lt : (most : ℕ) (text : List ℕ) → IfSome (hexadecimal most text) (λ n. n < 16 ^ most)
hexadecimal-lt most text = few_digits (leb (length text) most) most text refl
