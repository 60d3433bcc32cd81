-- The attributes of a rule: a group, a priority and directions, any number of times and in any order; a later number
-- replaces an earlier one, and what isn't named is 0 or off. Where a rule's place isn't asked, directions stand alone.
use Rattle.std.specs.Prelude.{ℕ, true, false, List, [], ◌∷◌, codes, Option, None, Some, option_map}
use Rattle.flow_rules.specs.declared.spec.Attr.{Attr}
use Rattle.rule_words.specs.declared.attributes.AttrWord.{AttrWord}
use Rattle.rule_words.specs.declared.attributes.AttrWord.TheVariants as attr_words
use Rattle.rule_words.specs.Vocabulary.{meaning_of}
use Rattle.rule_words.specs.Number.{first_number}
use Rattle.rule_words.specs.Turns.{◌>>=◌, up_to}

-- the words of directions
abbrev pub directions : List (List ℕ × AttrWord)
directions =
    (codes "ingress", attr_words.Ingress)
    ∷ (codes "egress", attr_words.Egress)
    ∷ (codes "transfer", attr_words.Transfer)
    ∷ []

-- the words of attributes
abbrev pub words : List (List ℕ × AttrWord)
words = (codes "group", attr_words.Group) ∷ (codes "priority", attr_words.Priority) ∷ directions

abbrev pub no_attributes : Attr
no_attributes = record { group = 0; priority = 0; ingress = false; egress = false; transfer = false }

-- what such a word says with those behind it, and what it leaves of them
abbrev pub said_by : AttrWord → Attr → List (List ℕ) → Option (Attr × List (List ℕ))
said_by attr_words.Group attr rest = option_map (λ read. (record attr { group = read.0 }, read.1)) (first_number 32 rest)
said_by attr_words.Priority attr rest = option_map (λ read. (record attr { priority = read.0 }, read.1)) (first_number 32 rest)
said_by attr_words.Ingress attr rest = Some (record attr { ingress = true }, rest)
said_by attr_words.Egress attr rest = Some (record attr { egress = true }, rest)
said_by attr_words.Transfer attr rest = Some (record attr { transfer = true }, rest)

-- what the first words say, by a table of words
abbrev pub attribute : List (List ℕ × AttrWord) → Attr → List (List ℕ) → Option (Attr × List (List ℕ))
attribute table attr [] = None
attribute table attr (word ∷ rest) = meaning_of table word >>= λ said. said_by said attr rest

-- the attributes that words make up to the ending word, and the words behind it
abbrev pub attributes_of : List ℕ → List (List ℕ) → Option (Attr × List (List ℕ))
attributes_of ending rest = up_to ending (attribute words) no_attributes rest

-- the same of directions alone
abbrev pub directions_of : List ℕ → List (List ℕ) → Option (Attr × List (List ℕ))
directions_of ending rest = up_to ending (attribute directions) no_attributes rest
