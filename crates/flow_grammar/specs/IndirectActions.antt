-- What `flow indirect_action PORT ..` asks: actions that rules share.
use Rattle.std.specs.Prelude.{ℕ, List, [], ◌∷◌, codes, Option, Some, option_map}
use Rattle.flow_calls.specs.declared.call.Op.{Op}
use Rattle.flow_calls.specs.declared.call.Op.TheVariants as ops
use Rattle.flow_actions.specs.declared.action.Action.{Action}
use Rattle.flow_rules.specs.declared.spec.Attr.{Attr}
use Rattle.rule_words.specs.Turns.{◌>>=◌}
use Rattle.rule_words.specs.Number.{first_number}
use Rattle.rule_words.specs.Attributes.{directions_of}
use Rattle.rule_words.specs.Actions.{action_of}
use Rattle.flow_grammar.specs.declared.destroys.Object.TheVariants as objects
use Rattle.flow_grammar.specs.declared.indirect_actions.IndirectVerb.{IndirectVerb}
use Rattle.flow_grammar.specs.declared.indirect_actions.IndirectVerb.TheVariants as verb
use Rattle.flow_grammar.specs.Words.{behind, at_end, given_id, first_meaning}
use Rattle.flow_grammar.specs.Destroys.{destroys_of}

-- the verbs behind the port
abbrev pub verbs : List (List ℕ × IndirectVerb)
verbs =
    (codes "create", verb.Create)
    ∷ (codes "update", verb.Update)
    ∷ (codes "destroy", verb.Destroy)
    ∷ (codes "query", verb.Query)
    ∷ []

-- `ACTION / end`, and no more
unfoldable pub last_action_of : List (List ℕ) → Option Action
last_action_of words = do
  action ← action_of words
  rest ← behind (codes "end") action.1
  at_end rest action.0

-- `action ACTION / end`
unfoldable pub new_action_of : List (List ℕ) → Option Action
new_action_of words = behind (codes "action") words >>= last_action_of

-- `[action_id ID] DIRS action ACTION / end`
unfoldable pub created_of : List (List ℕ) → Option (Option ℕ × Attr × Action)
created_of words = do
  id ← given_id (codes "action_id") words
  attr ← directions_of (codes "action") id.1
  action ← last_action_of attr.1
  Some (id.0, attr.0, action)

abbrev pub create_of : List (List ℕ) → Option Op
create_of words = option_map (λ created. ops.IndirectCreate created.0 created.1 created.2) (created_of words)

-- `ID action ACTION / end`
unfoldable pub update_of : List (List ℕ) → Option Op
update_of words = do
  id ← first_number 16 words
  action ← new_action_of id.1
  Some (ops.IndirectUpdate id.0 action)

-- `ID`
unfoldable pub query_of : List (List ℕ) → Option Op
query_of words = first_number 16 words >>= λ id. at_end id.1 (ops.IndirectQuery id.0)

-- what the words behind a verb ask
abbrev pub asked : IndirectVerb → List (List ℕ) → Option (List Op)
asked verb.Create words = option_map (λ op. op ∷ []) (create_of words)
asked verb.Update words = option_map (λ op. op ∷ []) (update_of words)
asked verb.Destroy words = destroys_of objects.Indirect words
asked verb.Query words = option_map (λ op. op ∷ []) (query_of words)

-- what the words behind `flow indirect_action PORT` ask
abbrev pub indirect_asked : List (List ℕ) → Option (List Op)
indirect_asked words = first_meaning verbs words >>= λ verb. asked verb.0 verb.1
