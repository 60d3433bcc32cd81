use Rattle.std.proofs.Common.{sym, ap, ◌∙◌, subst}
use Rattle.rules_in_effect.specs.Entries.{is_plain}
use Rattle.rules_in_effect.specs.IdIndex.{find}
use Rattle.rules_in_effect.specs.Inside.{AreNamed}
use Rattle.rules_in_effect.specs.Order.{entries}
use Rattle.std.specs.List.{count_by}
use Rattle.rules_in_effect.proofs.Named.{AreNamed-same}
use Rattle.rules_in_effect.proofs.rules.RulesInEffect.reserve.Goals as goal

pub invariant_of-self : goal.invariant_of-self
invariant_of-self c = (AreNamed-same (find c.self.inside.index) (find c.reserve.new.self) c.self.inside.order.kept c.in_err-reserve.ensures.same c.self.invariant.0, c.self.invariant.1)

pub invariant_of-self-2 : goal.invariant_of-self-2
invariant_of-self-2 c = (
  subst (AreNamed (find c.reserve.new.self)) (sym c.reserve-2.ensures.same) (AreNamed-same (find c.self.inside.index) (find c.reserve.new.self) c.self.inside.order.kept c.in_ok-reserve.ensures.same c.self.invariant.0),
  c.self.invariant.1 ∙ ap (λ kept. count_by is_plain (entries kept)) (sym c.reserve-2.ensures.same),
)
