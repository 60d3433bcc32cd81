use Rattle.std.proofs.Common.{◌≡◌, Some, sym, ap, ◌∙◌, subst, refl, IsSome, arith}
use Rattle.rules_in_effect.specs.Entries.{is_plain, entry_at, without}
use Rattle.rules_in_effect.specs.IdIndex.{find}
use Rattle.rules_in_effect.specs.Inside.{AreNamed}
use Rattle.rules_in_effect.specs.Order.{entries}
use Rattle.rules_in_effect.specs.RulesView.{RulesView}
use Rattle.std.specs.List.{count_by}
use Rattle.rules_in_effect.proofs.Distinct.{without-none}
use Rattle.rules_in_effect.proofs.Named.{AreNamed-but, known, named-none, plain-without}
use Rattle.rules_in_effect.proofs.rules.RulesInEffect.remove.Goals as goal

pub returns-in_default-clause-entry : goal.returns-in_default-clause-entry
returns-in_default-clause-entry c =
    sym (named-none (find c.self.inside.index) c.self.inside.order.kept c.args.id c.self.invariant.0.each (sym c.get.ensures ∙ c.in_default.is))
    ∙ ap (λ (v : RulesView). entry_at c.args.id v.list) c.self.view_is

pub returns-in_default-clause-others : goal.returns-in_default-clause-others
returns-in_default-clause-others c =
    let none = named-none (find c.self.inside.index) c.self.inside.order.kept c.args.id c.self.invariant.0.each (sym c.get.ensures ∙ c.in_default.is) in
    subst (λ (v : RulesView). v.list ≡ without c.args.id v.list) c.self.view_is (sym (without-none c.args.id (entries c.self.inside.order.kept) none))

pub take-entry-requires : goal.take-entry-requires
take-entry-requires c = subst IsSome (sym (c.self.invariant.0.exact c.args.id c.in-Some.handle (sym c.get.ensures ∙ c.in-Some.is)).at) refl

pub overflow_sub-self : goal.overflow_sub-self
overflow_sub-self c =
    let told = known (find c.self.inside.index) c.self.inside.order.kept c.args.id c.in-Some.handle c.self.invariant.0 (sym c.get.ensures ∙ c.in-Some.is) in
    let taken : entry_at c.args.id (entries c.self.inside.order.kept) ≡ Some c.take-entry.result = told.is ∙ sym told.at ∙ c.take-entry.ensures.entry in
    omega (arith, c.self.invariant.1, c.one_if_plain.ensures, plain-without c.args.id (entries c.self.inside.order.kept) c.take-entry.result c.self.invariant.0.distinct taken)

pub invariant_of-self : goal.invariant_of-self
invariant_of-self c =
    let is = sym c.get.ensures ∙ c.in-Some.is in
    let told = known (find c.self.inside.index) c.self.inside.order.kept c.args.id c.in-Some.handle c.self.invariant.0 is in
    let taken : entry_at c.args.id (entries c.self.inside.order.kept) ≡ Some c.take-entry.result = told.is ∙ sym told.at ∙ c.take-entry.ensures.entry in
    let left : count_by is_plain (entries c.take-entry.new.self.kept) ≡ count_by is_plain (without c.args.id (entries c.self.inside.order.kept))
    = ap (count_by is_plain) (ap entries c.take-entry.ensures.others ∙ told.rest) in (
      subst (AreNamed (find c.remove.new.self)) (sym c.take-entry.ensures.others)
          (AreNamed-but (find c.self.inside.index) (find c.remove.new.self) c.self.inside.order.kept c.args.id c.in-Some.handle c.self.invariant.0 is c.remove.ensures.here c.remove.ensures.others),
      omega (arith, c.self.invariant.1, c.one_if_plain.ensures, left, plain-without c.args.id (entries c.self.inside.order.kept) c.take-entry.result c.self.invariant.0.distinct taken),
    )

pub returns-clause-entry : goal.returns-clause-entry
returns-clause-entry c =
    let told = known (find c.self.inside.index) c.self.inside.order.kept c.args.id c.in-Some.handle c.self.invariant.0 (sym c.get.ensures ∙ c.in-Some.is) in
    sym c.take-entry.ensures.entry ∙ told.at ∙ sym told.is ∙ ap (λ (v : RulesView). entry_at c.args.id v.list) c.self.view_is

pub returns-clause-others : goal.returns-clause-others
returns-clause-others c =
    let told = known (find c.self.inside.index) c.self.inside.order.kept c.args.id c.in-Some.handle c.self.invariant.0 (sym c.get.ensures ∙ c.in-Some.is) in
    ap entries c.take-entry.ensures.others ∙ told.rest ∙ ap (λ (v : RulesView). without c.args.id v.list) c.self.view_is
