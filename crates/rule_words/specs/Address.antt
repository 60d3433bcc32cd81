-- Addresses: a MAC address as six groups of one or two hexadecimal digits between `:`, an IPv4 address as four decimal
-- numbers of 8 bits between `.`, and an IPv6 address as eight groups of one to four hexadecimal digits between `:`, or
-- fewer with one `::`, which stands for one or more groups of 0 (RFC 4291, section 2.2, without its mixed form).
use Rattle.std.specs.Prelude.{ℕ, ◌+◌, ◌-◌, ◌==◌, nat_eq, nat_lt, nat_le, List, [], ◌∷◌, ◌++◌, length, drop, replicate, codes, Option, None, Some, option_map, if◌then◌else◌}
use Rattle.std.specs.List.{slice_split, starts_with}
use Rattle.rule_words.specs.declared.address.Address.{Address}
use Rattle.rule_words.specs.declared.address.Address.TheVariants as address
use Rattle.rule_words.specs.declared.address.Groups.{Groups}
use Rattle.rule_words.specs.Number.{number_from, number_in, decimal_number, below}

-- `:` (58) or `.` (46)
abbrev pub separator_of : Address → ℕ
separator_of address.Mac = 58
separator_of address.Ip4 = 46
separator_of address.Ip6 = 58

-- how many groups a whole address has
abbrev pub most_groups : Address → ℕ
most_groups address.Mac = 6
most_groups address.Ip4 = 4
most_groups address.Ip6 = 8

-- one more than the greatest number of a group
abbrev pub factor_of : Address → ℕ
factor_of address.Mac = 256
factor_of address.Ip4 = 256
factor_of address.Ip6 = 65536

-- how many bits an address has
abbrev pub width_of : Address → ℕ
width_of address.Mac = 48
width_of address.Ip4 = 32
width_of address.Ip6 = 128

-- one to so many hexadecimal digits
abbrev pub hexadecimal : ℕ → List ℕ → Option ℕ
hexadecimal most text = if nat_le (length text) most then number_in 16 text else None

-- the number of a group
abbrev pub group_of : Address → List ℕ → Option ℕ
group_of address.Mac text = hexadecimal 2 text
group_of address.Ip4 text = below 256 (decimal_number text)
group_of address.Ip6 text = hexadecimal 4 text

-- the groups between separators
abbrev pub pieces : Address → List ℕ → List (List ℕ)
pieces a text = slice_split (λ byte. byte == separator_of a) text

-- the number that groups make, the highest first
abbrev pub number_of_groups : Address → List (List ℕ) → Option ℕ
number_of_groups a groups = number_from (group_of a) (factor_of a) 0 groups

-- the number of an address that has all its groups
abbrev pub whole_address : Address → List (List ℕ) → Option ℕ
whole_address a groups = if length groups == most_groups a then number_of_groups a groups else None

-- groups read, where they are no more than those of a whole address
abbrev pub groups_read : Address → List (List ℕ) → Option Groups
groups_read a groups =
    if nat_le (length groups) (most_groups a)
    then option_map (λ value. record { count = length groups; value = value }) (number_of_groups a groups) else None

-- the groups on one side of `::`, where there may be none
abbrev pub side_groups : List ℕ → List (List ℕ)
side_groups [] = []
side_groups (byte ∷ bytes) = pieces address.Ip6 (byte ∷ bytes)

-- the groups before `::` and those behind it, with as many of 0 between them as make eight, at least one
abbrev pub filled_address : List (List ℕ) → List (List ℕ) → Option ℕ
filled_address front back =
    if nat_lt (length front + length back) 8
    then number_of_groups address.Ip6 (front ++ (replicate (8 - (length front + length back)) (codes "0") ++ back)) else None

-- what stands before the first `::`, behind a front that has none, and what behind it
abbrev pub sides_from : List ℕ → List ℕ → Option (List ℕ × List ℕ)
sides_from front [] = None
sides_from front (byte ∷ bytes) =
    if starts_with nat_eq (byte ∷ bytes) (codes "::") then Some (front, drop 2 (byte ∷ bytes))
    else sides_from (front ++ byte ∷ []) bytes

-- the number of an IPv6 address, whose text has these sides of `::`, or has none
abbrev pub address_with_sides : List ℕ → Option (List ℕ × List ℕ) → Option ℕ
address_with_sides text None = whole_address address.Ip6 (pieces address.Ip6 text)
address_with_sides text (Some sides) = filled_address (side_groups sides.0) (side_groups sides.1)

-- the number of an address
abbrev pub address_of : Address → List ℕ → Option ℕ
address_of address.Mac text = whole_address address.Mac (pieces address.Mac text)
address_of address.Ip4 text = whole_address address.Ip4 (pieces address.Ip4 text)
address_of address.Ip6 text = address_with_sides text (sides_from [] text)
