use Rattle.std.proofs.Common.{not, nat_eq, rules}
use Rattle.std.proofs.lemmas.Fn.{filter_same}
use Rattle.rules_in_effect.specs.declared.index.Waiting.{Waiting}
use Rattle.rules_in_effect.proofs.index.forget.Goals as goal

pub returns-clause-others : goal.returns-clause-others
returns-clause-others c = filter_same _ (λ (waits : Waiting). not (nat_eq waits.id c.args.id)) _ (λ x b q h. search rules) _ _ c.retain.ensures.filtered
