-- The forms of a line: its first word names a command, and a flow line's verb what it asks.
use Rattle.std.specs.Prelude.{ℕ, ◌==◌, ◌&&◌, nat_le, List, [], ◌∷◌, codes, Option, None, Some, option_map, if◌then◌else◌}
use Rattle.flow_calls.specs.declared.call.Op.{Op}
use Rattle.flow_calls.specs.declared.call.Op.TheVariants as ops
use Rattle.flow_calls.specs.declared.call.BadKind.TheVariants as kinds
use Rattle.flow_rules.specs.declared.spec.RuleSpec.{RuleSpec}
use Rattle.rule_words.specs.Turns.{◌>>=◌}
use Rattle.rule_words.specs.Vocabulary.{meaning_of}
use Rattle.rule_words.specs.Number.{first_number}
use Rattle.rule_words.specs.Attributes.{attributes_of}
use Rattle.rule_words.specs.Flags.{flag_and_rest}
use Rattle.flow_grammar.specs.declared.line.Line.{Line}
use Rattle.flow_grammar.specs.declared.line.Line.TheVariants as lines
use Rattle.flow_grammar.specs.declared.forms.Command.{Command}
use Rattle.flow_grammar.specs.declared.forms.Command.TheVariants as command
use Rattle.flow_grammar.specs.declared.verbs.Verb.{Verb}
use Rattle.flow_grammar.specs.declared.verbs.Verb.TheVariants as verb
use Rattle.flow_grammar.specs.declared.destroys.Object.TheVariants as objects
use Rattle.flow_grammar.specs.Words.{behind, at_end}
use Rattle.flow_grammar.specs.Destroys.{destroys_of}
use Rattle.flow_grammar.specs.RuleLists.{rule_lists_of}
use Rattle.flow_grammar.specs.IndirectActions.{indirect_asked}
use Rattle.flow_grammar.specs.declared.templates.Made.TheVariants as mades
use Rattle.flow_grammar.specs.Templates.{made_asked}
use Rattle.flow_grammar.specs.Queues.{configure_of, queue_asked, push_of, pull_of}

-- `ATTRS pattern ITEMS actions ACTIONS`, and no more
unfoldable pub rule_of : List (List ℕ) → Option RuleSpec
rule_of words = do
  attr ← attributes_of (codes "pattern") words
  lists ← rule_lists_of attr.1
  Some (record { attr = attr.0; pattern = lists.pattern; actions = lists.actions })

-- `RULE count`
unfoldable pub query_of : List (List ℕ) → Option Op
query_of words = do
  id ← first_number 32 words
  rest ← behind (codes "count") id.1
  at_end rest (ops.Query id.0)

-- `BOOL`
unfoldable pub switch_of : List (List ℕ) → Option Op
switch_of words = flag_and_rest words >>= λ on. at_end on.1 (ops.Isolate on.0)

-- the verbs of flow lines
abbrev pub verbs : List (List ℕ × Verb)
verbs =
    (codes "validate", verb.Validate)
    ∷ (codes "create", verb.Create)
    ∷ (codes "destroy", verb.Destroy)
    ∷ (codes "flush", verb.Flush)
    ∷ (codes "list", verb.List)
    ∷ (codes "isolate", verb.Isolate)
    ∷ (codes "query", verb.Query)
    ∷ (codes "indirect_action", verb.IndirectAction)
    ∷ (codes "pattern_template", verb.PatternTemplate)
    ∷ (codes "actions_template", verb.ActionsTemplate)
    ∷ (codes "template_table", verb.TemplateTable)
    ∷ (codes "configure", verb.Configure)
    ∷ (codes "queue", verb.Queue)
    ∷ (codes "push", verb.Push)
    ∷ (codes "pull", verb.Pull)
    ∷ []

-- what the words behind `flow VERB PORT` ask
abbrev pub asked : Verb → List (List ℕ) → Option (List Op)
asked verb.Validate words = option_map (λ rule. ops.Validate rule ∷ []) (rule_of words)
asked verb.Create words = option_map (λ rule. ops.Create rule ∷ []) (rule_of words)
asked verb.Destroy words = destroys_of objects.Rule words
asked verb.Flush words = at_end words (ops.Flush ∷ [])
asked verb.List words = at_end words (ops.List ∷ [])
asked verb.Isolate words = option_map (λ op. op ∷ []) (switch_of words)
asked verb.Query words = option_map (λ op. op ∷ []) (query_of words)
asked verb.IndirectAction words = indirect_asked words
asked verb.PatternTemplate words = made_asked mades.Pattern words
asked verb.ActionsTemplate words = made_asked mades.Actions words
asked verb.TemplateTable words = made_asked mades.Table words
asked verb.Configure words = option_map (λ op. op ∷ []) (configure_of words)
asked verb.Queue words = queue_asked words
asked verb.Push words = option_map (λ op. op ∷ []) (push_of words)
asked verb.Pull words = option_map (λ op. op ∷ []) (pull_of words)

-- a flow line asks on port 0, the only one
abbrev pub on_port : ℕ → List Op → Line
on_port port ops = if port == 0 then lines.Calls ops else lines.Bad kinds.Port

-- `flow VERB PORT ..`
unfoldable pub flow_line : List (List ℕ) → Option Line
flow_line [] = None
flow_line (word ∷ words) = do
  v ← meaning_of verbs word
  port ← first_number 32 words
  ops ← asked v port.1
  Some (on_port port.0 ops)

-- `forward NUMBER`: a phase of 1 to 1,048,576 frames, as many as phases reach
abbrev pub phase_of : ℕ → Option Line
phase_of count = if nat_le 1 count && nat_le count 1048576 then Some (lines.Start (Some count)) else None

unfoldable pub forward_line : List (List ℕ) → Option Line
forward_line words = first_number 32 words >>= λ count. at_end count.1 count.0 >>= phase_of

-- the commands
abbrev pub commands : List (List ℕ × Command)
commands =
    (codes "flow", command.Flow)
    ∷ (codes "start", command.Start)
    ∷ (codes "forward", command.Forward)
    ∷ (codes "stop", command.Stop)
    ∷ (codes "quit", command.Quit)
    ∷ []

-- what the words behind a command say
abbrev pub said_by : Command → List (List ℕ) → Option Line
said_by command.Flow words = flow_line words
said_by command.Start words = at_end words (lines.Start None)
said_by command.Forward words = forward_line words
said_by command.Stop words = at_end words lines.Stop
said_by command.Quit words = at_end words lines.Quit
