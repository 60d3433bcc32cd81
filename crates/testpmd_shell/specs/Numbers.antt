-- The numbers that the program's words give.
use Rattle.std.specs.Prelude.{ℕ, ◌+◌, ◌*◌, ◌-◌, nat_le, Bool, ◌&&◌, List, length, fold, Option, None, Some, if◌then◌else◌}
use Rattle.std.specs.List.{list_all}

abbrev pub is_digit : ℕ → Bool
is_digit b = nat_le 48 b && nat_le b 57

-- the number of decimal digits
abbrev pub digits_value : List ℕ → ℕ
digits_value digits = fold (λ n b. n * 10 + (b - 48)) 0 digits

-- a number is one to six decimal digits
abbrev pub is_number : List ℕ → Bool
is_number text = nat_le 1 (length text) && (nat_le (length text) 6 && list_all is_digit text)

abbrev pub in_range : ℕ → ℕ → ℕ → Option ℕ
in_range least most n = if nat_le least n && nat_le n most then Some n else None

-- a number in a range that is given, or another where none is
abbrev pub number_or : ℕ → ℕ → ℕ → Option (List ℕ) → Option ℕ
number_or other least most None = Some other
number_or other least most (Some text) = if is_number text then in_range least most (digits_value text) else None

-- 1 to 16 Rx queues, 1 where none is given
abbrev pub queues_of : Option (List ℕ) → Option ℕ
queues_of text = number_or 1 1 16 text

-- 0 to 16 workers, 1 where none is given
abbrev pub cores_of : Option (List ℕ) → Option ℕ
cores_of text = number_or 1 0 16 text

-- 1 to 65,536 rules, 4,096 where none is given
abbrev pub rules_of : Option (List ℕ) → Option ℕ
rules_of text = number_or 4096 1 65536 text
