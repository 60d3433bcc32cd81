-- Lists of ids: `WORD ID { WORD ID }`, with one word in front of each.
use Rattle.std.specs.Prelude.{ℕ, ◌<◌, ◌&&◌, nat_le, List, [], ◌∷◌, length, bytes_eq, Option, None, Some, option_map, if◌then◌else◌}
use Rattle.rule_words.specs.Number.{number_of_bits}
use Rattle.rule_words.specs.declared.ids.Front.{Front}
use Rattle.rule_words.specs.declared.ids.Front.TheVariants as fronts
use Rattle.rule_words.specs.Turns.{◌>>=◌}

-- the ids of so many bits that stand in front behind this word, and the words behind them
abbrev pub ids_in_front : List ℕ → ℕ → List (List ℕ) → Option (List ℕ × List (List ℕ))
ids_in_front name bits [] = Some ([], [])
ids_in_front name bits (word ∷ []) = if bytes_eq word name then None else Some ([], word ∷ [])
ids_in_front name bits (word ∷ value ∷ rest) =
    if bytes_eq word name
    then (number_of_bits bits value >>= λ id. option_map (λ read. (id ∷ read.0, read.1)) (ids_in_front name bits rest))
    else Some ([], word ∷ value ∷ rest)

-- the same, where they are 1 to so many
abbrev pub ids_of : List ℕ → ℕ → ℕ → List (List ℕ) → Option (List ℕ × List (List ℕ))
ids_of name bits most words =
    ids_in_front name bits words >>= λ read. if nat_le 1 (length read.0) && nat_le (length read.0) most then Some read else None

-- each is below the limit
abbrev pub AreBelow : ℕ → List ℕ → Type 0
AreBelow limit [] = Unit
AreBelow limit (n ∷ ns) = (n < limit) × AreBelow limit ns

-- what stands in front, with what the words behind two say
abbrev pub with_front : Front → List (List ℕ) → Option (List ℕ × List (List ℕ)) → Option (List ℕ × List (List ℕ))
with_front (fronts.Id id) words others = option_map (λ read. (id ∷ read.0, read.1)) others
with_front fronts.Other words others = Some ([], words)
with_front fronts.Bad words others = None

abbrev pub IsId : Front → Type 0
IsId (fronts.Id id) = Unit {0}
IsId fronts.Other = ⊥
IsId fronts.Bad = ⊥
