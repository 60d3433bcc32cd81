use Rattle.std.proofs.Common.{ℕ, List, Bor}
use Rattle.rule_words.proofs.TurnSteps.{map-rest}
use Rattle.rule_words.proofs.turns.behind.Goals as goal

pub returns : goal.returns
returns c = map-rest (λ (w : Bor (List ℕ)). w.now) c.args.words.now c.args.taken
