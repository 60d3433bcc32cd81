-- The numbers of the grammar: `0`, decimal digits without a leading zero, or `0x` and hexadecimal digits of either case.
use Rattle.std.specs.Prelude.{ℕ, ◌+◌, ◌*◌, ◌^◌, ◌==◌, nat_eq, nat_lt, List, [], ◌∷◌, length, drop, codes, Option, None, Some, option_and_then, option_map, if◌then◌else◌}
use Rattle.std.specs.Char.{digit_value}
use Rattle.std.specs.List.{starts_with}

-- the number that places of a base make behind a number; each place has a value, or there is no number
abbrev pub number_from : {X : Type 0} → (X → Option ℕ) → ℕ → ℕ → List X → Option ℕ
number_from value_at base n [] = Some n
number_from value_at base n (place ∷ places) = option_and_then (λ value. number_from value_at base (n * base + value) places) (value_at place)

-- a digit of a base
abbrev pub digit_of : ℕ → ℕ → Option ℕ
digit_of base digit = if nat_lt (digit_value digit) base then Some (digit_value digit) else None

-- the number of one or more digits of a base
abbrev pub number_in : ℕ → List ℕ → Option ℕ
number_in base digits = if length digits == 0 then None else number_from (digit_of base) base 0 digits

-- of two or more decimal digits the first isn't `0` (48)
abbrev pub decimal_number : List ℕ → Option ℕ
decimal_number (digit ∷ next ∷ digits) = if digit == 48 then None else number_in 10 (digit ∷ next ∷ digits)
decimal_number digits = number_in 10 digits

-- the number that a word is
abbrev pub number_of : List ℕ → Option ℕ
number_of word = if starts_with nat_eq word (codes "0x") then number_in 16 (drop 2 word) else decimal_number word

-- the number, where it is below a limit
abbrev pub below : ℕ → Option ℕ → Option ℕ
below limit None = None
below limit (Some n) = if nat_lt n limit then Some n else None

-- the number that a word is, where it has at most so many bits
abbrev pub number_of_bits : ℕ → List ℕ → Option ℕ
number_of_bits bits word = below (2 ^ bits) (number_of word)

-- the number of so many bits that the first word is, and the words behind it
abbrev pub first_number : ℕ → List (List ℕ) → Option (ℕ × List (List ℕ))
first_number bits [] = None
first_number bits (word ∷ words) = option_map (λ n. (n, words)) (number_of_bits bits word)
