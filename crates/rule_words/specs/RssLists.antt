-- The lists of RSS: `{ "queues" {QUEUE} "end" | "types" {TYPE} "end" }`.
use Rattle.std.specs.Prelude.{ℕ, ◌==◌, nat_lt, bit_or, List, [], ◌∷◌, ◌++◌, length, codes, Option, None, option_map, if◌then◌else◌}
use Rattle.arrayvec.specs.ArrayVec.{ArrayVec}
use Rattle.flow_actions.specs.declared.rss.Rss.{Rss}
use Rattle.rule_words.specs.declared.rss_lists.RssList.{RssList}
use Rattle.rule_words.specs.declared.rss_lists.RssList.TheVariants as lists
use Rattle.rule_words.specs.declared.rss_lists.Types.{Types}
use Rattle.rule_words.specs.Vocabulary.{meaning_of}
use Rattle.rule_words.specs.Number.{number_of_bits}
use Rattle.rule_words.specs.Turns.{◌>>=◌, up_to}

-- the list that a word begins
abbrev pub list_words : List (List ℕ × RssList)
list_words = (codes "queues", lists.Queues) ∷ (codes "types", lists.Types) ∷ []

-- the bits of the types of frame
abbrev pub type_bits : List (List ℕ × ℕ)
type_bits =
    (codes "ipv4", 1)
    ∷ (codes "ipv4-tcp", 2)
    ∷ (codes "ipv4-udp", 4)
    ∷ (codes "ipv6", 8)
    ∷ (codes "ipv6-tcp", 16)
    ∷ (codes "ipv6-udp", 32)
    ∷ []

-- lists of which nothing was read yet
abbrev pub no_queues : ArrayVec ℕ
no_queues = record { items = [] }

abbrev pub no_types : Types
no_types = record { bits = 0 }

-- RSS without a list, of these types: no queue is named
abbrev pub unlisted : ℕ → Rss
unlisted types = record { queues = no_queues; types = types }

-- all six types count
abbrev pub all_types : ℕ
all_types = 63

-- one more queue, of which there are at most 16
abbrev pub with_queue : ArrayVec ℕ → List ℕ → Option (ArrayVec ℕ)
with_queue queues word =
    if nat_lt (length queues.items) 16
    then option_map (λ queue. record { items = queues.items ++ queue ∷ [] }) (number_of_bits 16 word) else None

-- one more type
abbrev pub with_type : Types → List ℕ → Option Types
with_type types word = option_map (λ bit. record { bits = bit_or types.bits bit }) (meaning_of type_bits word)

-- a list of queues replaces that before it, but for an empty one
abbrev pub with_queues : Rss → ArrayVec ℕ → Rss
with_queues rss queues = if length queues.items == 0 then rss else record rss { queues = queues }

-- a list of types replaces that before it
abbrev pub with_types : Rss → Types → Rss
with_types rss types = record rss { types = types.bits }

-- the first word of a list, which says one thing more
abbrev pub listed : {A : Type 0} → (A → List ℕ → Option A) → A → List (List ℕ) → Option (A × List (List ℕ))
listed with_one a [] = None
listed with_one a (word ∷ rest) = option_map (λ after. (after, rest)) (with_one a word)

-- a list up to its `end`
abbrev pub list_behind : Rss → RssList → List (List ℕ) → Option (Rss × List (List ℕ))
list_behind rss lists.Queues rest =
    option_map (λ read. (with_queues rss read.0, read.1)) (up_to (codes "end") (listed with_queue) no_queues rest)
list_behind rss lists.Types rest =
    option_map (λ read. (with_types rss read.0, read.1)) (up_to (codes "end") (listed with_type) no_types rest)

-- what the first words inside `rss` say
abbrev pub rss_setting : Rss → List (List ℕ) → Option (Rss × List (List ℕ))
rss_setting rss [] = None
rss_setting rss (name ∷ rest) = meaning_of list_words name >>= λ list. list_behind rss list rest
