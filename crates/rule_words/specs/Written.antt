-- Attributes, items, actions and ids as they are written, and what they say: the grammar in its own order.
use Rattle.std.specs.Prelude.{ℕ, true, List, [], ◌∷◌, ◌++◌, codes, bytes_eq, Bool, false, Option, None, Some, option_map}
use Rattle.flow_actions.specs.Kinds.{kind_of}
use Rattle.flow_actions.specs.declared.action.Action.{Action}
use Rattle.flow_actions.specs.declared.action.Action.TheVariants as actions
use Rattle.flow_actions.specs.declared.action.ActionKind.{ActionKind}
use Rattle.flow_actions.specs.declared.action.ActionKind.TheVariants as kind
use Rattle.flow_actions.specs.declared.action.Actions.{Actions}
use Rattle.flow_actions.specs.declared.rss.Rss.{Rss}
use Rattle.flow_rules.specs.declared.spec.Attr.{Attr}
use Rattle.pattern_items.specs.declared.pattern.Item.{Item}
use Rattle.pattern_items.specs.declared.pattern.Pattern.{Pattern}
use Rattle.rule_words.specs.Vocabulary.{meaning_of}
use Rattle.rule_words.specs.Number.{number_of_bits}
use Rattle.rule_words.specs.Turns.{◌>>=◌}
use Rattle.rule_words.specs.Items.{kinds, item_of, with_item, with_field}
use Rattle.rule_words.specs.declared.rss_lists.RssList.{RssList}
use Rattle.rule_words.specs.declared.rss_lists.RssList.TheVariants as lists
use Rattle.rule_words.specs.RssLists.{list_words, no_queues, no_types, with_queue, with_queues, with_type, with_types}
use Rattle.rule_words.specs.Actions.{words, with_value, with_word, with_action}

-- things that are written one after the other, and the ending word
abbrev pub words_up_to : {X : Type 0} → List ℕ → (X → List (List ℕ)) → List X → List (List ℕ)
words_up_to ending words_of [] = ending ∷ []
words_up_to ending words_of (x ∷ xs) = words_of x ++ words_up_to ending words_of xs

-- what they make of a value, one after the other
abbrev pub made_by : {X A : Type 0} → (A → X → Option A) → A → List X → Option A
made_by make a [] = Some a
made_by make a (x ∷ xs) = make a x >>= λ after. made_by make after xs

-- "group" GROUP | "priority" PRIO | "ingress" | "egress" | "transfer"
pub data WrittenAttr : Type 0 where
  Group : List ℕ → WrittenAttr
  Priority : List ℕ → WrittenAttr
  Ingress : WrittenAttr
  Egress : WrittenAttr
  Transfer : WrittenAttr

abbrev pub attr_words : WrittenAttr → List (List ℕ)
attr_words (Group number) = codes "group" ∷ number ∷ []
attr_words (Priority number) = codes "priority" ∷ number ∷ []
attr_words Ingress = codes "ingress" ∷ []
attr_words Egress = codes "egress" ∷ []
attr_words Transfer = codes "transfer" ∷ []

abbrev pub attr_with : Attr → WrittenAttr → Option Attr
attr_with attr (Group number) = option_map (λ n. record attr { group = n }) (number_of_bits 32 number)
attr_with attr (Priority number) = option_map (λ n. record attr { priority = n }) (number_of_bits 32 number)
attr_with attr Ingress = Some (record attr { ingress = true })
attr_with attr Egress = Some (record attr { egress = true })
attr_with attr Transfer = Some (record attr { transfer = true })

-- the same where directions stand alone
abbrev pub direction_with : Attr → WrittenAttr → Option Attr
direction_with attr (Group number) = None
direction_with attr (Priority number) = None
direction_with attr written = attr_with attr written

-- FIELD REL VALUE
pub record WrittenField : Type 0 where
  pub field : List ℕ
  pub relation : List ℕ
  pub value : List ℕ

abbrev pub field_words : WrittenField → List (List ℕ)
field_words f = f.field ∷ f.relation ∷ f.value ∷ []

abbrev pub item_with : Item → WrittenField → Option Item
item_with item f = with_field item f.field f.relation f.value

-- KIND { FIELD REL VALUE } "/", where `void` is a kind without fields
pub record WrittenItem : Type 0 where
  pub kind : List ℕ
  pub fields : List WrittenField

abbrev pub item_words : WrittenItem → List (List ℕ)
item_words i = i.kind ∷ words_up_to (codes "/") field_words i.fields

abbrev pub pattern_with : Pattern → WrittenItem → Option Pattern
pattern_with so_far i = meaning_of kinds i.kind >>= λ k. option_map (with_item so_far) (made_by item_with (item_of k) i.fields)

-- NAME VALUE, or NAME { WORD } "end"
pub data WrittenSetting : Type 0 where
  Value : List ℕ → List ℕ → WrittenSetting
  Listed : List ℕ → List (List ℕ) → WrittenSetting

-- a word alone
abbrev pub alone : List ℕ → List (List ℕ)
alone word = word ∷ []

abbrev pub setting_words : WrittenSetting → List (List ℕ)
setting_words (Value name value) = name ∷ value ∷ []
setting_words (Listed name listed) = name ∷ words_up_to (codes "end") alone listed

abbrev pub list_with : Rss → List (List ℕ) → RssList → Option Rss
list_with rss listed lists.Queues = option_map (with_queues rss) (made_by with_queue no_queues listed)
list_with rss listed lists.Types = option_map (with_types rss) (made_by with_type no_types listed)

-- a list stands in RSS alone, and a value in no RSS
abbrev pub action_with : Action → WrittenSetting → Option Action
action_with a (Value name value) = with_word (kind_of a) name value
action_with (actions.Rss rss) (Listed name listed) = option_map actions.Rss (meaning_of list_words name >>= list_with rss listed)
action_with a (Listed name listed) = None

-- ACTION "/": a word with what stands inside, or "indirect" ID
pub data WrittenAction : Type 0 where
  Named : List ℕ → List WrittenSetting → WrittenAction
  Shared : List ℕ → WrittenAction

abbrev pub action_words : WrittenAction → List (List ℕ)
action_words (Named word settings) = word ∷ words_up_to (codes "/") setting_words settings
action_words (Shared id) = codes "indirect" ∷ id ∷ codes "/" ∷ []

-- the action of a kind that is named by its word alone: one that rules share isn't
abbrev pub action_of_kind : ActionKind → Option Action
action_of_kind kind.Indirect = None
action_of_kind k = Some (with_value k 0)

abbrev pub action_said : WrittenAction → Option Action
action_said (Named word settings) = meaning_of words word >>= λ k. action_of_kind k >>= λ a. made_by action_with a settings
action_said (Shared id) = option_map actions.Indirect (number_of_bits 16 id)

abbrev pub actions_with : Actions → WrittenAction → Option Actions
actions_with so_far a = option_map (with_action so_far) (action_said a)

-- ids, each behind one word
abbrev pub id_words : List ℕ → List (List ℕ) → List (List ℕ)
id_words name [] = []
id_words name (value ∷ values) = name ∷ value ∷ id_words name values

abbrev pub ids_with : ℕ → List (List ℕ) → Option (List ℕ)
ids_with bits [] = Some []
ids_with bits (value ∷ values) = number_of_bits bits value >>= λ id. option_map (λ ids. id ∷ ids) (ids_with bits values)

-- the words go on with this one
abbrev pub goes_on_with : List ℕ → List (List ℕ) → Bool
goes_on_with name [] = false
goes_on_with name (word ∷ others) = bytes_eq word name
