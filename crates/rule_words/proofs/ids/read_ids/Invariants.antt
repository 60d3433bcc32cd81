use Rattle.std.proofs.Common.{◌≡◌, ◌≤◌, ◌*◌, drop, length, map}
use Rattle.rule_words.specs.Ids.{ids_in_front}
use Rattle.rule_words.proofs.IdSteps.{joined}
use Rattle.rule_words.proofs.ids.read_ids.Given as goal

-- the words that are left, behind the ids so far, say the whole
abbrev pub invariant-loop : goal.invariant-loop
invariant-loop l = record {
  few : length l.ids.items ≤ l.most;
  place : l.at ≡ 2 * l.index;
  within : l.at ≤ length l.words;
  same : joined l.ids.items (ids_in_front l.name l.bits (drop l.at (map (λ word. word.now) l.words)))
      ≡ ids_in_front l.name l.bits (map (λ word. word.now) l.words);
}
