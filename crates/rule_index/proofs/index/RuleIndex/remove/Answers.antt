use Rattle.std.proofs.Common.{◌≡◌, List, Option, None, ap, sym, subst, ◌∙◌, refl, slice_set, length, arith}
use Rattle.flow_rules.specs.RuleView.{RuleView}
use Rattle.flow_rules.specs.Changes.{without}
use Rattle.rule_index.specs.IndexView.{IndexView}
use Rattle.rule_index.specs.Index.{IsSound, IsFound, IsPlaceOf, HasNo, chain_of, place_of}
use Rattle.rule_index.specs.Rank.{present}
use Rattle.rule_index.proofs.Removal.{distinct, without_none, without_one, length_cleared, one_less}
use Rattle.rule_index.proofs.Growth.{lent_back}
use Rattle.rule_index.proofs.Views.{view_same}
use Rattle.rule_index.proofs.index.RuleIndex.remove.Goals as goal

pub returns-in_default : goal.returns-in_default
returns-in_default c =
    let none : HasNo c.self.inside.slots.items c.args.id = subst (λ (xs : List (Option RuleView)). HasNo xs c.args.id) c.as_slice.ensures.value (subst (IsFound c.as_slice.result.now c.args.id) c.in_default.is c.find.ensures) in
    let rules_are : present c.self.inside.slots.items ≡ c.args.self.now.rules = ap (λ (v : IndexView). v.rules) c.self.view_is in
    view_same _ _ _ _ (sym rules_are ∙ without_none c.self.inside.slots.items c.args.id none ∙ ap (without c.args.id) rules_are) refl

pub returns : goal.returns
returns c =
    let there : IsPlaceOf c.self.inside.slots.items c.args.id c.in-Some.place =
    subst (λ (xs : List (Option RuleView)). IsPlaceOf xs c.args.id c.in-Some.place) c.as_slice.ensures.value (subst (IsFound c.as_slice.result.now c.args.id) c.in-Some.is c.find.ensures) in
    let apart = distinct c.self.inside.slots.items c.self.inside.finder.tables.list c.self.inside.finder.places.items (chain_of c.self.inside.finder) (place_of c.self.inside.finder) c.self.invariant.indexed in
    let is : c.forget.new.slots ≡ slice_set c.self.inside.slots.items c.in-Some.place None =
    c.forget.ensures.slots ∙ ap (λ (xs : List (Option RuleView)). slice_set xs c.in-Some.place None) c.as_mut_slice.ensures.value in
    let long : c.self.inside.slots.len ≡ length c.forget.new.slots =
    sym c.as_slice.ensures.len ∙ ap length c.as_slice.ensures.value ∙ sym (ap length is ∙ length_cleared c.self.inside.slots.items c.in-Some.place) in
    view_same _ _ _ _
    (ap present (lent_back c.forget.new.slots _ c.self.inside.slots.len long ∙ is)
    ∙ without_one c.self.inside.slots.items c.args.id c.in-Some.place apart there ∙ ap (λ (v : IndexView). without c.args.id v.rules) c.self.view_is)
    (ap (λ (v : IndexView). v.inserts) c.self.view_is)

pub invariant_of-self : goal.invariant_of-self
invariant_of-self c =
    let there : IsPlaceOf c.self.inside.slots.items c.args.id c.in-Some.place =
    subst (λ (xs : List (Option RuleView)). IsPlaceOf xs c.args.id c.in-Some.place) c.as_slice.ensures.value (subst (IsFound c.as_slice.result.now c.args.id) c.in-Some.is c.find.ensures) in
    let is : c.forget.new.slots ≡ slice_set c.self.inside.slots.items c.in-Some.place None =
    c.forget.ensures.slots ∙ ap (λ (xs : List (Option RuleView)). slice_set xs c.in-Some.place None) c.as_mut_slice.ensures.value in
    let long : c.self.inside.slots.len ≡ length c.forget.new.slots =
    sym c.as_slice.ensures.len ∙ ap length c.as_slice.ensures.value ∙ sym (ap length is ∙ length_cleared c.self.inside.slots.items c.in-Some.place) in
    subst (λ (xs : List (Option RuleView)). IsSound xs c.forget.new.finder c.saturating_sub-self-inside.result) (sym (lent_back c.forget.new.slots _ c.self.inside.slots.len long)) (record {
      indexed = c.forget.ensures.indexed;
      counted = omega (arith, c.saturating_sub-self-inside.ensures, c.self.invariant.counted, one_less c.self.inside.slots.items c.in-Some.place there.rule there.at, ap (λ (xs : List (Option RuleView)). length (present xs)) is);
    })
