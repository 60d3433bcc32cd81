use Rattle.std.proofs.Common.{sym, ap, ◌∙◌, subst, refl, IsSome}
use Rattle.rules_in_effect.specs.Entries.{entry_at}
use Rattle.rules_in_effect.specs.IdIndex.{find}
use Rattle.rules_in_effect.specs.RulesView.{RulesView}
use Rattle.rules_in_effect.proofs.Named.{known, named-none}
use Rattle.rules_in_effect.proofs.rules.RulesInEffect.get.Goals as goal

pub returns-in_default : goal.returns-in_default
returns-in_default c =
    sym (named-none (find c.self.inside.index) c.self.inside.order.kept c.args.id c.self.invariant.0.each (sym c.get.ensures ∙ c.in_default.is))
    ∙ ap (λ (v : RulesView). entry_at c.args.id v.list) c.self.view_is

pub get-requires-2 : goal.get-requires-2
get-requires-2 c = subst IsSome (sym (c.self.invariant.0.exact c.args.id c.in-Some.handle (sym c.get.ensures ∙ c.in-Some.is)).at) refl

pub returns : goal.returns
returns c =
    let told = known (find c.self.inside.index) c.self.inside.order.kept c.args.id c.in-Some.handle c.self.invariant.0 (sym c.get.ensures ∙ c.in-Some.is) in
    c.get-2.ensures ∙ told.at ∙ sym told.is ∙ ap (λ (v : RulesView). entry_at c.args.id v.list) c.self.view_is
