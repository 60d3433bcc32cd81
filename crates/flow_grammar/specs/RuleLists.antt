-- The pattern and the actions of a rule, as a line ends with them.
use Rattle.std.specs.Prelude.{ℕ, List, codes, Option, Some}
use Rattle.flow_calls.specs.declared.call.RuleLists.{RuleLists}
use Rattle.rule_words.specs.Turns.{◌>>=◌}
use Rattle.rule_words.specs.Items.{items_of}
use Rattle.rule_words.specs.Actions.{actions_of}
use Rattle.flow_grammar.specs.Words.{behind, last_of}

-- `ITEMS actions ACTIONS`, and no more
unfoldable pub rule_lists_of : List (List ℕ) → Option RuleLists
rule_lists_of words = do
  pattern ← items_of words
  rest ← behind (codes "actions") pattern.1
  actions ← last_of (actions_of rest)
  Some (record { pattern = pattern.0; actions = actions })
