use Rattle.std.proofs.Common.{◌≡◌, ◌-◌, ◌++◌, ◌∷◌, [], List, length, Some, ◌∙◌, rules, arith}
use Rattle.std.specs.List.{slice_get}
use Rattle.rules_in_effect.specs.declared.index.Waiting.{Waiting}
use Rattle.rules_in_effect.proofs.Waits.{found-settled, last-apart}
use Rattle.rules_in_effect.proofs.index.settle.Goals as goal

pub loop-waits-preserved : goal.loop-waits-preserved
loop-waits-preserved c =
    let waiting : List Waiting = c.loop-waits.waiting.items in
    let is : slice_get waiting (length waiting - 1) ≡ Some c.in-Some.latest.now = search rules in
    let apart : waiting ≡ c.pop.new.self.items ++ c.in-Some.latest.now ∷ [] = last-apart waiting c.in-Some.latest.now is ∙ search rules in (
      λ id. found-settled id c.loop-waits.places.items c.settle_one.new.places.items waiting c.pop.new.self.items c.in-Some.latest.now (c.in_ok-settle_one.ensures.ok id) apart
          ∙ c.loop-waits.invariant.0 id,
      search (rules, arith),
    )
