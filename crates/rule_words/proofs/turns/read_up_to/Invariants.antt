use Rattle.std.proofs.Common.{◌≡◌, ◌≤◌, length, drop, map}
use Rattle.rule_words.specs.Turns.{turns, up_to}
use Rattle.rule_words.proofs.turns.read_up_to.Given as goal

-- the words that are left, behind what the value has taken in, say the whole
abbrev pub invariant-loop : goal.invariant-loop
invariant-loop g l = record {
  few : l.at ≤ length l.words;
  same : turns (drop l.index (map (λ word. word.now) l.words)) l.ending g.T.TurnReader.turn l.value (drop l.at (map (λ word. word.now) l.words))
      ≡ up_to l.ending g.T.TurnReader.turn l.initial.value (map (λ word. word.now) l.words);
}
