-- What `flow configure PORT ..`, `flow queue PORT ..`, `flow push PORT ..` and `flow pull PORT ..` ask.
use Rattle.std.specs.Prelude.{ℕ, Bool, false, List, [], ◌∷◌, bytes_eq, codes, Option, None, Some, option_map, if◌then◌else◌}
use Rattle.flow_calls.specs.declared.call.Op.{Op}
use Rattle.flow_calls.specs.declared.call.Op.TheVariants as ops
use Rattle.rule_words.specs.Turns.{◌>>=◌}
use Rattle.rule_words.specs.Number.{first_number}
use Rattle.rule_words.specs.Flags.{flag_and_rest}
use Rattle.flow_grammar.specs.declared.destroys.Object.TheVariants as objects
use Rattle.flow_grammar.specs.declared.queues.QueueVerb.{QueueVerb}
use Rattle.flow_grammar.specs.declared.queues.QueueVerb.TheVariants as verb
use Rattle.flow_grammar.specs.declared.indirect_actions.IndirectVerb.{IndirectVerb}
use Rattle.flow_grammar.specs.declared.indirect_actions.IndirectVerb.TheVariants as action
use Rattle.flow_grammar.specs.Words.{behind, at_end, first_meaning, number_behind}
use Rattle.flow_grammar.specs.Destroys.{destroys_of}
use Rattle.flow_grammar.specs.RuleLists.{rule_lists_of}
use Rattle.flow_grammar.specs.IndirectActions as indirect

-- `queues_number NUMBER queues_size NUMBER`
unfoldable pub configure_of : List (List ℕ) → Option Op
configure_of words = do
  queues ← number_behind (codes "queues_number") 32 words
  size ← number_behind (codes "queues_size") 32 queues.1
  at_end size.1 (ops.Configure queues.0 size.0)

-- `queue QUEUE`
unfoldable pub push_of : List (List ℕ) → Option Op
push_of words = number_behind (codes "queue") 16 words >>= λ queue. at_end queue.1 (ops.Push queue.0)

unfoldable pub pull_of : List (List ℕ) → Option Op
pull_of words = number_behind (codes "queue") 16 words >>= λ queue. at_end queue.1 (ops.Pull queue.0)

-- `[postpone BOOL]`: what it says, or what was said before where it isn't there, and the words behind
abbrev pub postponed : Bool → List (List ℕ) → Option (Bool × List (List ℕ))
postponed before [] = Some (before, [])
postponed before (word ∷ words) = if bytes_eq word (codes "postpone") then flag_and_rest words else Some (before, word ∷ words)

-- `template_table ID pattern_template INDEX actions_template INDEX`, and the words behind
unfoldable pub place_of : List (List ℕ) → Option (ℕ × ℕ × ℕ × List (List ℕ))
place_of words = do
  table ← number_behind (codes "template_table") 16 words
  pattern ← number_behind (codes "pattern_template") 16 table.1
  actions ← number_behind (codes "actions_template") 16 pattern.1
  Some (table.0, pattern.0, actions.0, actions.1)

-- `[postpone BOOL] template_table ID pattern_template INDEX actions_template INDEX [postpone BOOL] pattern ITEMS actions
-- ACTIONS`; of two `postpone` the later counts
unfoldable pub create_of : ℕ → List (List ℕ) → Option Op
create_of queue words = do
  early ← postponed false words
  place ← place_of early.1
  late ← postponed early.0 place.3
  rest ← behind (codes "pattern") late.1
  lists ← rule_lists_of rest
  Some (ops.QueueCreate queue late.0 place.0 place.1 place.2 lists)

-- `[postpone BOOL] rule RULE { rule RULE }`
unfoldable pub destroys_on : ℕ → List (List ℕ) → Option (List Op)
destroys_on queue words = postponed false words >>= λ postpone. destroys_of (objects.Queued queue postpone.0) postpone.1

-- `[postpone BOOL] [action_id ID] DIRS action ACTION / end`
unfoldable pub action_create_of : ℕ → List (List ℕ) → Option Op
action_create_of queue words = do
  postpone ← postponed false words
  created ← indirect.created_of postpone.1
  Some (ops.QueueIndirectCreate queue postpone.0 created.0 created.1 created.2)

-- `ID [postpone BOOL] action ACTION / end`
unfoldable pub action_update_of : ℕ → List (List ℕ) → Option Op
action_update_of queue words = do
  id ← first_number 16 words
  postpone ← postponed false id.1
  action ← indirect.new_action_of postpone.1
  Some (ops.QueueIndirectUpdate queue postpone.0 id.0 action)

-- `[postpone BOOL] action_id ID`
unfoldable pub action_destroy_of : ℕ → List (List ℕ) → Option Op
action_destroy_of queue words = do
  postpone ← postponed false words
  id ← number_behind (codes "action_id") 16 postpone.1
  at_end id.1 (ops.QueueIndirectDestroy queue postpone.0 id.0)

-- what the words behind `indirect_action QUEUE` and a verb ask; a query isn't queued
abbrev pub action_op : ℕ → IndirectVerb → List (List ℕ) → Option Op
action_op queue action.Create words = action_create_of queue words
action_op queue action.Update words = action_update_of queue words
action_op queue action.Destroy words = action_destroy_of queue words
action_op queue action.Query words = None

abbrev pub action_of : ℕ → List (List ℕ) → Option Op
action_of queue words = first_meaning indirect.verbs words >>= λ verb. action_op queue verb.0 verb.1

-- the verbs behind the port
abbrev pub verbs : List (List ℕ × QueueVerb)
verbs = (codes "create", verb.Create) ∷ (codes "destroy", verb.Destroy) ∷ (codes "indirect_action", verb.IndirectAction) ∷ []

-- what the words behind a verb and its queue ask
abbrev pub asked : QueueVerb → ℕ → List (List ℕ) → Option (List Op)
asked verb.Create queue words = option_map (λ op. op ∷ []) (create_of queue words)
asked verb.Destroy queue words = destroys_on queue words
asked verb.IndirectAction queue words = option_map (λ op. op ∷ []) (action_of queue words)

-- what the words behind `flow queue PORT` ask
unfoldable pub queue_asked : List (List ℕ) → Option (List Op)
queue_asked words = do
  v ← first_meaning verbs words
  queue ← first_number 16 v.1
  asked v.0 queue.0 queue.1
