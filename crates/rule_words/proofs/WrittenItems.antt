-- Items that are written as the grammar says are read so, and what is read was written so.
use Rattle.std.proofs.Common.{◌≡◌, ℕ, false, List, [], ◌∷◌, ◌++◌, codes, None, Some, refl, arith, sym, ap, ◌∙◌}
use Rattle.std.specs.Option.{option_and_then, option_map}
use Rattle.std.specs.Str.{bytes_eq}
use Rattle.std.proofs.lemmas.Slice.Eq.{bytes_eq-Decides}
use Rattle.packet_headers.specs.declared.items.ItemKind.{ItemKind}
use Rattle.packet_headers.specs.declared.items.ItemKind.TheVariants as kind
use Rattle.pattern_items.specs.declared.pattern.Item.{Item}
use Rattle.pattern_items.specs.declared.pattern.Pattern.{Pattern}
use Rattle.rule_words.specs.declared.field_words.Named.{Named}
use Rattle.rule_words.specs.Vocabulary.{meaning_of}
use Rattle.rule_words.specs.FieldWords.{named_by}
use Rattle.rule_words.specs.Relations.{relations, related}
use Rattle.rule_words.specs.Turns.{up_to}
use Rattle.rule_words.specs.Items.{kinds, item_of, with_item, with_field, field, item_behind}
use Rattle.rule_words.specs.Written.{words_up_to, made_by, WrittenField, field_words, item_with, WrittenItem, item_words, pattern_with}
use Rattle.rule_words.proofs.TurnsWritten.{on_some, on_map, is_false, up_to-read, turns-only}

-- `end` is no kind, and `/` no field
end-kind : (k : ItemKind) (word : List ℕ) → meaning_of kinds word ≡ Some k → bytes_eq word (codes "end") ≡ false
end-kind k word is = is_false (bytes_eq word (codes "end")) (λ same.
    let none : meaning_of kinds (codes "end") ≡ Some k = ap (meaning_of kinds) (sym ((bytes_eq-Decides word (codes "end")).0 same)) ∙ is in cc)

no_slash : (k : ItemKind) → named_by k (codes "/") ≡ None
no_slash kind.Void = refl
no_slash kind.Eth = refl
no_slash kind.Vlan = refl
no_slash kind.Ipv4 = refl
no_slash kind.Ipv6 = refl
no_slash kind.Tcp = refl
no_slash kind.Udp = refl
no_slash kind.Vxlan = refl

slash-field : (k : ItemKind) (named : Named) (word : List ℕ) → named_by k word ≡ Some named → bytes_eq word (codes "/") ≡ false
slash-field k named word is = is_false (bytes_eq word (codes "/")) (λ same.
    let none : None ≡ Some named = sym (no_slash k) ∙ ap (named_by k) (sym ((bytes_eq-Decides word (codes "/")).0 same)) ∙ is in cc)

-- a field
field-begins : (a b : Item) (f : WrittenField) → item_with a f ≡ Some b → (word : List ℕ) × (words : List (List ℕ)) × (field_words f ≡ word ∷ words) × (bytes_eq word (codes "/") ≡ false)
field-begins a b f is =
    let named = on_some (named_by a.kind f.field) (λ named. option_and_then (λ how. related a named how f.value) (meaning_of relations f.relation)) b is in
    (f.field, f.relation ∷ f.value ∷ [], refl, slash-field a.kind named.0 f.field named.1)

field-only : (a b : Item) (words rest : List (List ℕ)) → field a words ≡ Some (b, rest) → (f : WrittenField) × (words ≡ field_words f ++ rest) × (item_with a f ≡ Some b)
field-only a b [] rest is = absurd cc
field-only a b (word ∷ []) rest is = absurd cc
field-only a b (word ∷ relation ∷ []) rest is = absurd cc
field-only a b (word ∷ relation ∷ value ∷ words) rest is =
    let after = on_map (with_field a word relation value) (λ after. (after, words)) (b, rest) is in
    (record { field = word; relation = relation; value = value }, ap (λ (p : Item × List (List ℕ)). word ∷ relation ∷ value ∷ p.1) after.2, after.1 ∙ ap (λ (p : Item × List (List ℕ)). Some p.0) after.2)

fields-read : (fields : List WrittenField) (a b : Item) (rest : List (List ℕ)) → made_by item_with a fields ≡ Some b
    → up_to (codes "/") field a (words_up_to (codes "/") field_words fields ++ rest) ≡ Some (b, rest)
fields-read fields a b rest is =
    up_to-read (codes "/") field field_words item_with (λ f. omega arith) (λ a b f rest e. ap (option_map (λ after. (after, rest))) e) field-begins fields a b rest is

-- an item
item-read : (a b : Pattern) (i : WrittenItem) (rest : List (List ℕ)) → pattern_with a i ≡ Some b → item_behind a (item_words i ++ rest) ≡ Some (b, rest)
item-read a b i rest is =
    let k = on_some (meaning_of kinds i.kind) (λ k. option_map (with_item a) (made_by item_with (item_of k) i.fields)) b is in
    let item = on_map (made_by item_with (item_of k.0) i.fields) (with_item a) b k.2 in
    ap (option_and_then (λ q. option_map (λ read. (with_item a read.0, read.1)) (up_to (codes "/") field (item_of q) (words_up_to (codes "/") field_words i.fields ++ rest)))) k.1
    ∙ ap (option_map (λ read. (with_item a read.0, read.1))) (fields-read i.fields (item_of k.0) item.0 rest item.1)
    ∙ ap (λ p. Some (p, rest)) item.2

item-begins : (a b : Pattern) (i : WrittenItem) → pattern_with a i ≡ Some b → (word : List ℕ) × (words : List (List ℕ)) × (item_words i ≡ word ∷ words) × (bytes_eq word (codes "end") ≡ false)
item-begins a b i is =
    let k = on_some (meaning_of kinds i.kind) (λ k. option_map (with_item a) (made_by item_with (item_of k) i.fields)) b is in
    (i.kind, words_up_to (codes "/") field_words i.fields, refl, end-kind k.0 i.kind k.1)

item-only : (a b : Pattern) (words rest : List (List ℕ)) → item_behind a words ≡ Some (b, rest) → (i : WrittenItem) × (words ≡ item_words i ++ rest) × (pattern_with a i ≡ Some b)
item-only a b [] rest is = absurd cc
item-only a b (word ∷ words) rest is =
    let k = on_some (meaning_of kinds word) (λ k. option_map (λ read. (with_item a read.0, read.1)) (up_to (codes "/") field (item_of k) words)) (b, rest) is in
    let read = on_map (up_to (codes "/") field (item_of k.0) words) (λ read. (with_item a read.0, read.1)) (b, rest) k.2 in
    let fields = turns-only (codes "/") field field_words item_with field-only words (item_of k.0) read.0.0 words read.0.1 read.1 in (
      record { kind = word; fields = fields.0 },
      ap (λ ws. word ∷ ws) (fields.1 ∙ ap (λ (p : Pattern × List (List ℕ)). words_up_to (codes "/") field_words fields.0 ++ p.1) read.2),
      ap (option_and_then (λ q. option_map (with_item a) (made_by item_with (item_of q) fields.0))) k.1
          ∙ ap (option_map (with_item a)) fields.2 ∙ ap (λ (p : Pattern × List (List ℕ)). Some p.0) read.2,
    )

-- items, and their `end`
pub items-read : (items : List WrittenItem) (a b : Pattern) (rest : List (List ℕ)) → made_by pattern_with a items ≡ Some b
    → up_to (codes "end") item_behind a (words_up_to (codes "end") item_words items ++ rest) ≡ Some (b, rest)
items-read items a b rest is = up_to-read (codes "end") item_behind item_words pattern_with (λ i. omega arith) item-read item-begins items a b rest is

pub items-only : (a b : Pattern) (words rest : List (List ℕ)) → up_to (codes "end") item_behind a words ≡ Some (b, rest)
    → (items : List WrittenItem) × (words ≡ words_up_to (codes "end") item_words items ++ rest) × (made_by pattern_with a items ≡ Some b)
items-only a b words rest is = turns-only (codes "end") item_behind item_words pattern_with item-only words a b words rest is
