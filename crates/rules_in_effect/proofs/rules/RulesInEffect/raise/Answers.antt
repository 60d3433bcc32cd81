use Rattle.std.proofs.Common.{sym, ap, ◌∙◌, subst}
use Rattle.rules_in_effect.specs.Entries.{CanCount, is_plain, entry_at, raised}
use Rattle.rules_in_effect.specs.IdIndex.{find}
use Rattle.rules_in_effect.specs.Inside.{AreNamed}
use Rattle.rules_in_effect.specs.Order.{entries}
use Rattle.rules_in_effect.specs.RulesView.{RulesView}
use Rattle.std.specs.List.{count_by}
use Rattle.rules_in_effect.proofs.Named.{AreNamed-hit, known, named-none, plain-raised}
use Rattle.rules_in_effect.proofs.rules.RulesInEffect.raise.Goals as goal

pub unreachable-requires : goal.unreachable-requires
unreachable-requires c =
    let none = named-none (find c.self.inside.index) c.self.inside.order.kept c.args.id c.self.invariant.0.each (sym c.get.ensures ∙ c.in_default.is) in
    subst (CanCount c.args.bytes) none (subst (λ (v : RulesView). CanCount c.args.bytes (entry_at c.args.id v.list)) (sym c.self.view_is) c.requires)

pub hit-requires : goal.hit-requires
hit-requires c =
    let told = known (find c.self.inside.index) c.self.inside.order.kept c.args.id c.in-Some.handle c.self.invariant.0 (sym c.get.ensures ∙ c.in-Some.is) in
    subst (CanCount c.args.bytes) (told.is ∙ sym told.at) (subst (λ (v : RulesView). CanCount c.args.bytes (entry_at c.args.id v.list)) (sym c.self.view_is) c.requires)

pub invariant_of-self : goal.invariant_of-self
invariant_of-self c =
    let is = sym c.get.ensures ∙ c.in-Some.is in
    let told = known (find c.self.inside.index) c.self.inside.order.kept c.args.id c.in-Some.handle c.self.invariant.0 is in (
      subst (AreNamed (find c.self.inside.index)) (sym c.hit.ensures.kept) (AreNamed-hit (find c.self.inside.index) c.self.inside.order.kept c.args.id c.args.bytes c.in-Some.handle c.self.invariant.0 is),
      c.self.invariant.1
          ∙ sym (ap (λ kept. count_by is_plain (entries kept)) c.hit.ensures.kept ∙ ap (count_by is_plain) (told.hit c.args.bytes) ∙ plain-raised c.args.id c.args.bytes (entries c.self.inside.order.kept)),
    )

pub returns-clause-list : goal.returns-clause-list
returns-clause-list c =
    let told = known (find c.self.inside.index) c.self.inside.order.kept c.args.id c.in-Some.handle c.self.invariant.0 (sym c.get.ensures ∙ c.in-Some.is) in
    ap entries c.hit.ensures.kept ∙ told.hit c.args.bytes ∙ ap (λ (v : RulesView). raised c.args.id c.args.bytes v.list) c.self.view_is
