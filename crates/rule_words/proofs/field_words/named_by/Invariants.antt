use Rattle.std.proofs.Common.{◌≡◌, map, drop}
use Rattle.packet_headers.specs.Fields.{told}
use Rattle.rule_words.specs.FieldWords.{named_from}
use Rattle.rule_words.proofs.field_words.named_by.Given as goal

-- no field before this place has the word
abbrev pub invariant-loop-place : goal.invariant-loop-place
invariant-loop-place l =
    named_from l.place (map told (drop l.place l.fields)) l.word ≡ named_from 0 (map told l.fields) l.word
