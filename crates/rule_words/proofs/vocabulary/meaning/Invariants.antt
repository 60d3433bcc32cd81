use Rattle.std.proofs.Common.{◌≡◌, map, drop}
use Rattle.rule_words.specs.Vocabulary.{meaning_of}
use Rattle.rule_words.proofs.vocabulary.meaning.Given as goal

-- no row before these has the word
abbrev pub invariant-loop-name : goal.invariant-loop-name
invariant-loop-name g l =
    meaning_of (map (λ row. (row.0.now, row.1)) (drop l.name-index l.table)) l.word
    ≡ meaning_of (map (λ row. (row.0.now, row.1)) l.table) l.word
