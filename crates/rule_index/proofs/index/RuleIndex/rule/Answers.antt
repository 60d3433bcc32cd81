use Rattle.std.proofs.Common.{List, Option, ap, subst, ◌∙◌}
use Rattle.std.specs.List.{slice_get}
use Rattle.flow_rules.specs.RuleView.{RuleView}
use Rattle.rule_index.specs.IndexView.{IndexView, named}
use Rattle.rule_index.specs.Index.{IsFound, IsPlaceOf, HasNo, chain_of, place_of, rule_in}
use Rattle.rule_index.proofs.Removal.{distinct}
use Rattle.rule_index.proofs.Views.{named_none, named_one}
use Rattle.rule_index.proofs.index.RuleIndex.rule.Goals as goal

pub returns-in_default : goal.returns-in_default
returns-in_default c =
    let none : HasNo c.self.inside.slots.items c.args.id = subst (λ (xs : List (Option RuleView)). HasNo xs c.args.id) c.as_slice.ensures.value (subst (IsFound c.as_slice.result.now c.args.id) c.in_default.is c.find.ensures) in
    named_none c.self.inside.slots.items c.args.id none ∙ ap (λ (v : IndexView). named c.args.id v.rules) c.self.view_is

pub returns : goal.returns
returns c =
    let there : IsPlaceOf c.self.inside.slots.items c.args.id c.in-Some.place =
    subst (λ (xs : List (Option RuleView)). IsPlaceOf xs c.args.id c.in-Some.place) c.as_slice.ensures.value (subst (IsFound c.as_slice.result.now c.args.id) c.in-Some.is c.find.ensures) in
    let apart = distinct c.self.inside.slots.items c.self.inside.finder.tables.list c.self.inside.finder.places.items (chain_of c.self.inside.finder) (place_of c.self.inside.finder) c.self.invariant.indexed in
    c.rule_at.ensures ∙ ap (λ (xs : List (Option RuleView)). rule_in (slice_get xs c.in-Some.place)) c.as_slice-2.ensures.value ∙ ap rule_in there.at
    ∙ named_one c.self.inside.slots.items c.args.id c.in-Some.place there.rule apart there.at there.is ∙ ap (λ (v : IndexView). named c.args.id v.rules) c.self.view_is
