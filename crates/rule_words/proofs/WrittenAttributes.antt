-- Attributes that are written as the grammar says are read so.
use Rattle.std.proofs.Common.{◌≡◌, ℕ, ◌≤◌, false, List, [], ◌∷◌, ◌++◌, length, codes, None, Some, refl, arith, sym, ap, ◌∙◌}
use Rattle.std.specs.Option.{option_map}
use Rattle.std.specs.Str.{bytes_eq}
use Rattle.std.proofs.lemmas.Slice.Eq.{bytes_eq-Decides}
use Rattle.flow_rules.specs.declared.spec.Attr.{Attr}
use Rattle.rule_words.specs.declared.attributes.AttrWord.{AttrWord}
use Rattle.rule_words.specs.declared.attributes.AttrWord.TheVariants as attr_word
use Rattle.rule_words.specs.Vocabulary.{meaning_of}
use Rattle.rule_words.specs.Number.{number_of_bits}
use Rattle.rule_words.specs.Turns.{up_to}
use Rattle.rule_words.specs.Attributes.{words, directions, attribute}
use Rattle.rule_words.specs.Written.{words_up_to, made_by, WrittenAttr, Group, Priority, Ingress, Egress, Transfer, attr_words, attr_with, direction_with}
use Rattle.rule_words.proofs.TurnsWritten.{on_map, is_false, up_to-read}

attr-read : (a b : Attr) (w : WrittenAttr) (rest : List (List ℕ)) → attr_with a w ≡ Some b → attribute words a (attr_words w ++ rest) ≡ Some (b, rest)
attr-read a b (Group number) rest is =
    let read = on_map (number_of_bits 32 number) (λ n. record a { group = n }) b is in
    ap (λ o. option_map {T = ℕ × List (List ℕ)} (λ read. (record a { group = read.0 }, read.1)) (option_map (λ n. (n, rest)) o)) read.1 ∙ ap (λ v. Some (v, rest)) read.2
attr-read a b (Priority number) rest is =
    let read = on_map (number_of_bits 32 number) (λ n. record a { priority = n }) b is in
    ap (λ o. option_map {T = ℕ × List (List ℕ)} (λ read. (record a { priority = read.0 }, read.1)) (option_map (λ n. (n, rest)) o)) read.1 ∙ ap (λ v. Some (v, rest)) read.2
attr-read a b Ingress rest is = ap (option_map (λ v. (v, rest))) is
attr-read a b Egress rest is = ap (option_map (λ v. (v, rest))) is
attr-read a b Transfer rest is = ap (option_map (λ v. (v, rest))) is

direction-read : (a b : Attr) (w : WrittenAttr) (rest : List (List ℕ)) → direction_with a w ≡ Some b → attribute directions a (attr_words w ++ rest) ≡ Some (b, rest)
direction-read a b (Group number) rest is = absurd cc
direction-read a b (Priority number) rest is = absurd cc
direction-read a b Ingress rest is = attr-read a b Ingress rest is
direction-read a b Egress rest is = attr-read a b Egress rest is
direction-read a b Transfer rest is = attr-read a b Transfer rest is

-- a word that is none of a table's
other-word : (table : List (List ℕ × AttrWord)) (ending name : List ℕ) (said : AttrWord) → meaning_of table name ≡ Some said → meaning_of table ending ≡ None → bytes_eq name ending ≡ false
other-word table ending name said is none = is_false (bytes_eq name ending) (λ same.
    let other : Some said ≡ None = sym is ∙ ap (meaning_of table) ((bytes_eq-Decides name ending).0 same) ∙ none in cc)

attr-begins : (ending : List ℕ) → meaning_of words ending ≡ None
    → (a b : Attr) (w : WrittenAttr) → attr_with a w ≡ Some b → (word : List ℕ) × (others : List (List ℕ)) × (attr_words w ≡ word ∷ others) × (bytes_eq word ending ≡ false)
attr-begins ending none a b (Group number) is = (codes "group", number ∷ [], refl, other-word words ending (codes "group") attr_word.Group refl none)
attr-begins ending none a b (Priority number) is = (codes "priority", number ∷ [], refl, other-word words ending (codes "priority") attr_word.Priority refl none)
attr-begins ending none a b Ingress is = (codes "ingress", [], refl, other-word words ending (codes "ingress") attr_word.Ingress refl none)
attr-begins ending none a b Egress is = (codes "egress", [], refl, other-word words ending (codes "egress") attr_word.Egress refl none)
attr-begins ending none a b Transfer is = (codes "transfer", [], refl, other-word words ending (codes "transfer") attr_word.Transfer refl none)

direction-begins : (ending : List ℕ) → meaning_of directions ending ≡ None
    → (a b : Attr) (w : WrittenAttr) → direction_with a w ≡ Some b → (word : List ℕ) × (others : List (List ℕ)) × (attr_words w ≡ word ∷ others) × (bytes_eq word ending ≡ false)
direction-begins ending none a b (Group number) is = absurd cc
direction-begins ending none a b (Priority number) is = absurd cc
direction-begins ending none a b Ingress is = (codes "ingress", [], refl, other-word directions ending (codes "ingress") attr_word.Ingress refl none)
direction-begins ending none a b Egress is = (codes "egress", [], refl, other-word directions ending (codes "egress") attr_word.Egress refl none)
direction-begins ending none a b Transfer is = (codes "transfer", [], refl, other-word directions ending (codes "transfer") attr_word.Transfer refl none)

some_words : (w : WrittenAttr) → 1 ≤ length (attr_words w)
some_words (Group number) = omega arith
some_words (Priority number) = omega arith
some_words Ingress = omega arith
some_words Egress = omega arith
some_words Transfer = omega arith

pub attributes-read : (ending : List ℕ) (attrs : List WrittenAttr) (a b : Attr) (rest : List (List ℕ)) → meaning_of words ending ≡ None → made_by attr_with a attrs ≡ Some b
    → up_to ending (attribute words) a (words_up_to ending attr_words attrs ++ rest) ≡ Some (b, rest)
attributes-read ending attrs a b rest none is = up_to-read ending (attribute words) attr_words attr_with some_words attr-read (attr-begins ending none) attrs a b rest is

pub directions-read : (ending : List ℕ) (attrs : List WrittenAttr) (a b : Attr) (rest : List (List ℕ)) → meaning_of directions ending ≡ None → made_by direction_with a attrs ≡ Some b
    → up_to ending (attribute directions) a (words_up_to ending attr_words attrs ++ rest) ≡ Some (b, rest)
directions-read ending attrs a b rest none is = up_to-read ending (attribute directions) attr_words direction_with some_words direction-read (direction-begins ending none) attrs a b rest is
