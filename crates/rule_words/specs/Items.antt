-- The items of a pattern: `{ ITEM "/" } "end"`, where an item is `void`, or a kind with any number of fields, each with a
-- relation and a value.
use Rattle.std.specs.Prelude.{ℕ, ◌+◌, ◌-◌, ◌^◌, min, nat_lt, List, [], ◌∷◌, ◌++◌, length, codes, Option, None, option_map, if◌then◌else◌}
use Rattle.packet_headers.specs.declared.items.ItemKind.{ItemKind}
use Rattle.packet_headers.specs.declared.items.ItemKind.TheVariants as kind
use Rattle.pattern_items.specs.declared.pattern.Item.{Item}
use Rattle.pattern_items.specs.declared.pattern.Pattern.{Pattern}
use Rattle.rule_words.specs.Vocabulary.{meaning_of}
use Rattle.rule_words.specs.FieldWords.{named_by}
use Rattle.rule_words.specs.Relations.{relations, related}
use Rattle.rule_words.specs.Turns.{◌>>=◌, up_to}

abbrev pub kinds : List (List ℕ × ItemKind)
kinds =
    (codes "void", kind.Void)
    ∷ (codes "eth", kind.Eth)
    ∷ (codes "vlan", kind.Vlan)
    ∷ (codes "ipv4", kind.Ipv4)
    ∷ (codes "ipv6", kind.Ipv6)
    ∷ (codes "tcp", kind.Tcp)
    ∷ (codes "udp", kind.Udp)
    ∷ (codes "vxlan", kind.Vxlan)
    ∷ []

-- an item of a kind of which nothing is said
abbrev pub item_of : ItemKind → Item
item_of k = record { kind = k; given = None; last = None; mask = None }

abbrev pub no_items : Pattern
no_items = record { items = record { items = [] }; more = 0 }

-- one more item: the first 16 are kept, and those behind them counted
abbrev pub with_item : Pattern → Item → Pattern
with_item pattern item =
    if nat_lt (length pattern.items.items) 16
    then record pattern { items = record { items = pattern.items.items ++ item ∷ [] } }
    else record pattern { more = min (pattern.more + 1) (2 ^ 16 - 1) }

-- what a field says with a relation and a value
abbrev pub with_field : Item → List ℕ → List ℕ → List ℕ → Option Item
with_field item word relation value =
    named_by item.kind word >>= λ named. meaning_of relations relation >>= λ how. related item named how value

-- FIELD REL VALUE: what the first words inside an item say
abbrev pub field : Item → List (List ℕ) → Option (Item × List (List ℕ))
field item [] = None
field item (word ∷ []) = None
field item (word ∷ relation ∷ []) = None
field item (word ∷ relation ∷ value ∷ rest) = option_map (λ after. (after, rest)) (with_field item word relation value)

-- ITEM "/"
abbrev pub item_behind : Pattern → List (List ℕ) → Option (Pattern × List (List ℕ))
item_behind so_far [] = None
item_behind so_far (word ∷ rest) =
    meaning_of kinds word >>= λ k. option_map (λ read. (with_item so_far read.0, read.1)) (up_to (codes "/") field (item_of k) rest)

-- the pattern that words make up to `end`, and the words behind it
abbrev pub items_of : List (List ℕ) → Option (Pattern × List (List ℕ))
items_of words = up_to (codes "end") item_behind no_items words
