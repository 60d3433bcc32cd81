-- What a line says.
use Rattle.std.specs.Prelude.{ℕ, List, [], ◌∷◌, unwrap_or, if◌then◌else◌}
use Rattle.flow_calls.specs.declared.call.BadKind.TheVariants as kinds
use Rattle.rule_words.specs.Turns.{◌>>=◌}
use Rattle.rule_words.specs.Vocabulary.{meaning_of}
use Rattle.flow_grammar.specs.declared.line.Line.{Line}
use Rattle.flow_grammar.specs.declared.line.Line.TheVariants as lines
use Rattle.flow_grammar.specs.Words.{words_of, are_printable}
use Rattle.flow_grammar.specs.Forms.{commands, said_by}

-- what a line of these words says; where no form fits, it is bad
abbrev pub line_of_words : List (List ℕ) → Line
line_of_words [] = lines.Blank
line_of_words (word ∷ words) = unwrap_or (meaning_of commands word >>= λ command. said_by command words) (lines.Bad kinds.Arguments)

-- what a line says: one with an unprintable byte in front of its comment is bad, whatever its words
abbrev pub line_of : List ℕ → Line
line_of line =
    if are_printable (words_of line) then line_of_words (words_of line) else lines.Bad kinds.Arguments
