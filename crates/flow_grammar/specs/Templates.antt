-- What `flow pattern_template PORT ..`, `flow actions_template PORT ..` and `flow template_table PORT ..` ask.
use Rattle.std.specs.Prelude.{ℕ, List, [], ◌∷◌, codes, Option, Some, option_map}
use Rattle.flow_calls.specs.declared.call.Op.{Op}
use Rattle.flow_calls.specs.declared.call.Op.TheVariants as ops
use Rattle.flow_calls.specs.declared.call.ActionLists.{ActionLists}
use Rattle.flow_calls.specs.declared.call.TableTemplates.{TableTemplates}
use Rattle.rule_words.specs.Turns.{◌>>=◌}
use Rattle.rule_words.specs.Number.{first_number}
use Rattle.rule_words.specs.Attributes.{attributes_of, directions_of}
use Rattle.rule_words.specs.Items.{items_of}
use Rattle.rule_words.specs.Actions.{actions_of}
use Rattle.rule_words.specs.Masks.{masks_of}
use Rattle.rule_words.specs.Ids.{ids_of}
use Rattle.flow_grammar.specs.declared.destroys.Object.{Object}
use Rattle.flow_grammar.specs.declared.destroys.Object.TheVariants as objects
use Rattle.flow_grammar.specs.declared.templates.Made.{Made}
use Rattle.flow_grammar.specs.declared.templates.Made.TheVariants as mades
use Rattle.flow_grammar.specs.declared.templates.TemplateVerb.{TemplateVerb}
use Rattle.flow_grammar.specs.declared.templates.TemplateVerb.TheVariants as verb
use Rattle.flow_grammar.specs.Words.{behind, last_of, given_id, first_meaning}
use Rattle.flow_grammar.specs.Destroys.{destroys_of}

-- the verbs behind the port
abbrev pub verbs : List (List ℕ × TemplateVerb)
verbs = (codes "create", verb.Create) ∷ (codes "destroy", verb.Destroy) ∷ []

-- `[pattern_template_id ID] DIRS template ITEMS`
unfoldable pub pattern_of : List (List ℕ) → Option Op
pattern_of words = do
  id ← given_id (codes "pattern_template_id") words
  attr ← directions_of (codes "template") id.1
  pattern ← last_of (items_of attr.1)
  Some (ops.PatternTemplateCreate id.0 attr.0 pattern)

-- `ACTIONS mask ACTIONS`, and no more
unfoldable pub lists_of : List (List ℕ) → Option ActionLists
lists_of words = do
  actions ← actions_of words
  rest ← behind (codes "mask") actions.1
  masks ← last_of (masks_of rest)
  Some (record { actions = actions.0; masks = masks })

-- `[actions_template_id ID] DIRS template ACTIONS mask ACTIONS`
unfoldable pub actions_template_of : List (List ℕ) → Option Op
actions_template_of words = do
  id ← given_id (codes "actions_template_id") words
  attr ← directions_of (codes "template") id.1
  lists ← lists_of attr.1
  Some (ops.ActionsTemplateCreate id.0 attr.0 lists)

-- `pattern_template ID {..} actions_template ID {..}`, and no more: 1 to 8 of each kind
unfoldable pub templates_of : List (List ℕ) → Option TableTemplates
templates_of words = do
  patterns ← ids_of (codes "pattern_template") 16 8 words
  actions ← last_of (ids_of (codes "actions_template") 16 8 patterns.1)
  Some (record { patterns = record { items = patterns.0 }; actions = record { items = actions } })

-- `[table_id ID] ATTRS rules_number NUMBER pattern_template ID {..} actions_template ID {..}`
unfoldable pub table_of : List (List ℕ) → Option Op
table_of words = do
  id ← given_id (codes "table_id") words
  attr ← attributes_of (codes "rules_number") id.1
  number ← first_number 32 attr.1
  templates ← templates_of number.1
  Some (ops.TableCreate id.0 attr.0 number.0 templates)

-- what a line makes of a kind
abbrev pub created_of : Made → List (List ℕ) → Option Op
created_of mades.Pattern words = pattern_of words
created_of mades.Actions words = actions_template_of words
created_of mades.Table words = table_of words

-- what it destroys
abbrev pub object_of : Made → Object
object_of mades.Pattern = objects.PatternTemplate
object_of mades.Actions = objects.ActionsTemplate
object_of mades.Table = objects.Table

-- what the words behind a verb ask
abbrev pub asked : Made → TemplateVerb → List (List ℕ) → Option (List Op)
asked made verb.Create words = option_map (λ op. op ∷ []) (created_of made words)
asked made verb.Destroy words = destroys_of (object_of made) words

-- what the words behind a port ask
abbrev pub made_asked : Made → List (List ℕ) → Option (List Op)
made_asked made words = first_meaning verbs words >>= λ verb. asked made verb.0 verb.1
