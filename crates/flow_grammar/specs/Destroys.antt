-- Lines that destroy things by their ids.
use Rattle.std.specs.Prelude.{ℕ, List, map, codes, Option, option_map}
use Rattle.flow_calls.specs.declared.call.Op.{Op}
use Rattle.flow_calls.specs.declared.call.Op.TheVariants as ops
use Rattle.rule_words.specs.Turns.{◌>>=◌}
use Rattle.rule_words.specs.Ids.{ids_of}
use Rattle.flow_grammar.specs.declared.destroys.Object.{Object}
use Rattle.flow_grammar.specs.declared.destroys.Object.TheVariants as objects
use Rattle.flow_grammar.specs.Words.{at_end}

-- the word in front of each id
abbrev pub id_word : Object → List ℕ
id_word objects.Rule = codes "rule"
id_word objects.Indirect = codes "action_id"
id_word objects.PatternTemplate = codes "pattern_template"
id_word objects.ActionsTemplate = codes "actions_template"
id_word objects.Table = codes "table"
id_word (objects.Queued queue postpone) = codes "rule"

-- how many bits an id has
abbrev pub id_bits : Object → ℕ
id_bits objects.Rule = 32
id_bits objects.Indirect = 16
id_bits objects.PatternTemplate = 16
id_bits objects.ActionsTemplate = 16
id_bits objects.Table = 16
id_bits (objects.Queued queue postpone) = 32

-- the call that destroys one of them
abbrev pub destroy_of : Object → ℕ → Op
destroy_of objects.Rule id = ops.Destroy id
destroy_of objects.Indirect id = ops.IndirectDestroy id
destroy_of objects.PatternTemplate id = ops.PatternTemplateDestroy id
destroy_of objects.ActionsTemplate id = ops.ActionsTemplateDestroy id
destroy_of objects.Table id = ops.TableDestroy id
destroy_of (objects.Queued queue postpone) id = ops.QueueDestroy queue postpone id

-- `WORD ID { WORD ID }` and no more: at most 64 ids of so many bits
unfoldable pub listed_ids : List ℕ → ℕ → List (List ℕ) → Option (List ℕ)
listed_ids word bits words = ids_of word bits 64 words >>= λ ids. at_end ids.1 ids.0

-- the calls of a line that destroys, one for each id
abbrev pub destroys_of : Object → List (List ℕ) → Option (List Op)
destroys_of object words = option_map (map (destroy_of object)) (listed_ids (id_word object) (id_bits object) words)
