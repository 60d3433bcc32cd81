use Rattle.std.proofs.Common.{rules, of_calls, nat_lt, arith}
use Rattle.std.proofs.lemmas.Bool.{ltb-true, ltb-false, lt-ltb}
use Rattle.std.proofs.lemmas.Fn.{always_returns_same}
use Rattle.rule_index.proofs.turn.cut.Goals as goal

pub returns : goal.returns
returns c =
    let point = c.partition_point.ensures.partitioned (λ turn. nat_lt turn.order c.args.order) (always_returns_same _ _ _ (λ a r f k. search (rules, of_calls)))
    (λ i j d le lt t. lt-ltb _ _ (let up = c.requires i j d le lt in let under = ltb-true _ _ t in omega (arith, up, under))) in
    record {
      inside = c.partition_point.ensures.bound;
      before = λ k d le lt. ltb-true _ _ (point.0 k d le lt);
      behind = λ k d le lt. ltb-false _ _ (point.1 k d le lt);
    }
