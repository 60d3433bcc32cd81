-- The groups on both sides of `::`, and those of 0 between them.
use Rattle.std.proofs.Common.{◌≡◌, ℕ, suc, zero, ◌+◌, ◌-◌, ◌*◌, ◌^◌, ◌<◌, ◌≤◌, leb, ltb, cond, true, false, Bool, List, [], ◌∷◌, ◌++◌, length, replicate, codes, Option, None, Some, refl, arith, sym, ap, ◌∙◌, lit<}
use Rattle.std.specs.Option.{option_and_then, option_map}
use Rattle.std.proofs.Math.Nat.{pow-succ', pow-zero, pow-le-pow_right}
use Rattle.std.proofs.lemmas.Nat.{pow-add, mul-add-lt}
use Rattle.std.proofs.lemmas.Bool.{le-leb, lt-ltb, ltb-true}
use Rattle.rule_words.specs.declared.address.Address.{Address}
use Rattle.rule_words.specs.declared.address.Address.TheVariants as address
use Rattle.rule_words.specs.declared.address.Groups.{Groups}
use Rattle.rule_words.specs.Number.{number_from}
use Rattle.rule_words.specs.Address.{group_of, most_groups, number_of_groups, groups_read, filled_address}

-- places behind places
pub number_from-append : {X : Type 0} (value_at : X → Option ℕ) (base n : ℕ) (xs ys : List X)
    → number_from value_at base n (xs ++ ys) ≡ option_and_then (λ m. number_from value_at base m ys) (number_from value_at base n xs)
number_from-append value_at base n [] ys = refl
number_from-append value_at base n (x ∷ xs) ys =
    elim (value_at x)
    as (λ o. option_and_then (λ v. number_from value_at base (n * base + v) (xs ++ ys)) o
    ≡ option_and_then (λ m. number_from value_at base m ys) (option_and_then (λ v. number_from value_at base (n * base + v) xs) o))
    [ None ↦ refl | Some v ↦ number_from-append value_at base (n * base + v) xs ys ]

-- the first place of a number
behind_first : (base n v count : ℕ) (o : Option ℕ)
    → option_map (λ m. (n * base + v) * base ^ count + m) o ≡ option_map (λ m. n * base ^ suc count + m) (option_map (λ m. (0 * base + v) * base ^ count + m) o)
behind_first base n v count None = refl
behind_first base n v count (Some m) =
    let power : n * base ^ suc count ≡ n * (base * base ^ count) = ap (λ q. n * q) (pow-succ' base count) in
    ap Some (omega (arith, power))

-- places behind a number
pub number_from-behind : {X : Type 0} (value_at : X → Option ℕ) (base n : ℕ) (xs : List X)
    → number_from value_at base n xs ≡ option_map (λ m. n * base ^ length xs + m) (number_from value_at base 0 xs)
number_from-behind value_at base n [] =
    let power : n * base ^ 0 ≡ n * 1 = ap (λ q. n * q) (pow-zero base) in
    ap Some (omega (arith, power))
number_from-behind value_at base n (x ∷ xs) =
    elim (value_at x)
    as (λ o. option_and_then (λ v. number_from value_at base (n * base + v) xs) o
    ≡ option_map (λ m. n * base ^ suc (length xs) + m) (option_and_then (λ v. number_from value_at base (0 * base + v) xs) o)) [
      | None ↦ refl
      | Some v ↦ number_from-behind value_at base (n * base + v) xs
          ∙ behind_first base n v (length xs) (number_from value_at base 0 xs)
          ∙ ap (option_map (λ m. n * base ^ suc (length xs) + m)) (sym (number_from-behind value_at base (0 * base + v) xs))
    ]

-- groups of 0
pub number_from-zeros : (n count : ℕ) → number_from (group_of address.Ip6) 65536 n (replicate count (codes "0")) ≡ Some (n * 65536 ^ count)
number_from-zeros n zero = ap Some (omega arith)
number_from-zeros n (suc count) =
    let power : 65536 ^ suc count ≡ 65536 * 65536 ^ count = pow-succ' 65536 count in
    number_from-zeros (n * 65536 + 0) count
    ∙ ap Some (omega (arith, ap (λ q. n * q) power))

-- the same groups
same_groups : (count value : ℕ) (read : Groups) → ◌≡◌ {A = Option Groups} (Some (record { count = count; value = value })) (Some read) → (count ≡ read.count) × (◌≡◌ {A = Option ℕ} (Some value) (Some read.value))
same_groups count value read e =
    let same : record { count = count; value = value } ≡ read = cc in
    (ap (λ (g : Groups). g.count) same, ap (λ (g : Groups). Some g.value) same)

-- what groups were read
pub groups_read-is : (a : Address) (groups : List (List ℕ)) (read : Groups) → groups_read a groups ≡ Some read
    → (length groups ≡ read.count) × (number_of_groups a groups ≡ Some read.value)
groups_read-is a groups read is =
    elim (leb (length groups) (most_groups a))
    as (λ b. cond b (option_map (λ value. record { count = length groups; value = value }) (number_of_groups a groups)) None ≡ Some read → (length groups ≡ read.count) × (number_of_groups a groups ≡ Some read.value)) [
      | true ↦ elim (number_of_groups a groups)
          as (λ o. option_map (λ value. record { count = length groups; value = value }) o ≡ Some read → (length groups ≡ read.count) × (o ≡ Some read.value))
          [ None ↦ λ e. cc | Some v ↦ λ e. same_groups (length groups) v read e ]
      | false ↦ λ e. cc
    ] is

no_groups : (count value : ℕ) → ◌≡◌ {A = Option Groups} (Some (record { count = count; value = value })) None → ⊥
no_groups count value e = cc

-- groups that are few enough have no number
pub groups_read-fails : (a : Address) (groups : List (List ℕ)) → length groups ≤ most_groups a → groups_read a groups ≡ None → number_of_groups a groups ≡ None
groups_read-fails a groups few fails =
    elim (number_of_groups a groups)
    as (λ o. cond (leb (length groups) (most_groups a)) (option_map {U = Groups} (λ value. record { count = length groups; value = value }) o) None ≡ None → o ≡ None) [
      | None ↦ λ e. refl
      | Some v ↦ λ e. absurd (no_groups (length groups) v (sym (ap (λ b. cond b (Some (record { count = length groups; value = v })) None) (le-leb (length groups) (most_groups a) few)) ∙ e))
    ] fails

abbrev between : List (List ℕ) → List (List ℕ) → List (List ℕ)
between front back = replicate (8 - (length front + length back)) (codes "0") ++ back

-- the front has a bad group
front_fails : (b : Bool) (front back : List (List ℕ)) → ltb (length front + length back) 8 ≡ b → groups_read address.Ip6 front ≡ None
    → cond b (number_of_groups address.Ip6 (front ++ between front back)) None ≡ None
front_fails false front back is fails = refl
front_fails true front back is fails =
    let few : length front + length back < 8 = ltb-true (length front + length back) 8 is in
    number_from-append (group_of address.Ip6) 65536 0 front (between front back)
    ∙ ap (option_and_then (λ m. number_from (group_of address.Ip6) 65536 m (between front back))) (groups_read-fails address.Ip6 front (omega arith) fails)

pub filled-front_none : (front back : List (List ℕ)) → groups_read address.Ip6 front ≡ None → filled_address front back ≡ None
filled-front_none front back fails = front_fails (ltb (length front + length back) 8) front back refl fails

-- nothing goes on
and_then-none : {X Y : Type 0} (o : Option X) (f : X → Option Y) → ((x : X) → f x ≡ None) → option_and_then f o ≡ None
and_then-none None f none = refl
and_then-none (Some x) f none = none x

-- the back has a bad group
back_fails : (b : Bool) (front back : List (List ℕ)) → ltb (length front + length back) 8 ≡ b → groups_read address.Ip6 back ≡ None
    → cond b (number_of_groups address.Ip6 (front ++ between front back)) None ≡ None
back_fails false front back is fails = refl
back_fails true front back is fails =
    let few : length front + length back < 8 = ltb-true (length front + length back) 8 is in
    let none : number_from (group_of address.Ip6) 65536 0 back ≡ None = groups_read-fails address.Ip6 back (omega arith) fails in
    let zeros = replicate (8 - (length front + length back)) (codes "0") in
    number_from-append (group_of address.Ip6) 65536 0 front (between front back)
    ∙ and_then-none (number_from (group_of address.Ip6) 65536 0 front) (λ m. number_from (group_of address.Ip6) 65536 m (between front back))
    (λ m. number_from-append (group_of address.Ip6) 65536 m zeros back
    ∙ and_then-none (number_from (group_of address.Ip6) 65536 m zeros) (λ k. number_from (group_of address.Ip6) 65536 k back)
    (λ k. number_from-behind (group_of address.Ip6) 65536 k back ∙ ap (option_map (λ v. k * 65536 ^ length back + v)) none))

pub filled-back_none : (front back : List (List ℕ)) → groups_read address.Ip6 back ≡ None → filled_address front back ≡ None
filled-back_none front back fails = back_fails (ltb (length front + length back) 8) front back refl fails

-- both sides have numbers
pub filled-some : (front back : List (List ℕ)) (high low : ℕ) → length front + length back < 8 → number_of_groups address.Ip6 front ≡ Some high
    → number_of_groups address.Ip6 back ≡ Some low → filled_address front back ≡ Some (high * 65536 ^ (8 - length front) + low)
filled-some front back high low few front_is back_is =
    let count = 8 - (length front + length back) in
    let zeros = replicate count (codes "0") in
    let f = group_of address.Ip6 in
    let exponent : count + length back ≡ 8 - length front = omega arith in
    let power : high * (65536 ^ count * 65536 ^ length back) ≡ high * 65536 ^ (8 - length front) =
    ap (λ q. high * q) (sym (pow-add 65536 count (length back)) ∙ ap (λ k. 65536 ^ k) exponent) in
    ap (λ b. cond b (number_of_groups address.Ip6 (front ++ between front back)) None) (lt-ltb (length front + length back) 8 few)
    ∙ number_from-append f 65536 0 front (between front back)
    ∙ ap (option_and_then (λ m. number_from f 65536 m (between front back))) front_is
    ∙ number_from-append f 65536 high zeros back
    ∙ ap (option_and_then (λ m. number_from f 65536 m back)) (number_from-zeros high count)
    ∙ number_from-behind f 65536 (high * 65536 ^ count) back
    ∙ ap (option_map (λ m. high * 65536 ^ count * 65536 ^ length back + m)) back_is
    ∙ ap Some (omega (arith, power))

-- both sides together have at most 128 bits
pub filled-lt : (high low front back : ℕ) → front + back < 8 → high < 65536 ^ front → low < 65536 ^ back → high * 65536 ^ (8 - front) + low < 2 ^ 128
filled-lt high low front back few high_lt low_lt =
    let less : back ≤ 8 - front = omega arith in
    let wide : 65536 ^ back ≤ 65536 ^ (8 - front) = pow-le-pow_right (lit< tt) less in
    let bound = mul-add-lt high (65536 ^ (8 - front)) low (65536 ^ front) high_lt (omega arith) in
    let exponent : 8 - front + front ≡ 8 = omega arith in
    let power : 65536 ^ (8 - front) * 65536 ^ front ≡ 2 ^ 128 = sym (pow-add 65536 (8 - front) front) ∙ ap (λ k. 65536 ^ k) exponent in
    omega (arith, bound, power)
