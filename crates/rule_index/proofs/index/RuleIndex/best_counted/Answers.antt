use Rattle.std.proofs.Common.{◌≡◌, ◌≤◌, ℕ, length, List, Option, ap, subst, arith, ◌∙◌}
use Rattle.std.specs.Option.{option_map}
use Rattle.flow_rules.specs.Best as spec
use Rattle.flow_rules.specs.RuleView.{RuleView}
use Rattle.packet_headers.specs.declared.items.LayerAt.{LayerAt}
use Rattle.rule_index.specs.declared.chain.Lead.{Lead}
use Rattle.rule_index.specs.IndexView.{IndexView}
use Rattle.rule_index.specs.Rank.{IsBest, present}
use Rattle.rule_index.proofs.Ranks.{id_of_best}
use Rattle.rule_index.proofs.index.RuleIndex.best_counted.Goals as goal

best_is : (slots lent : List (Option RuleView)) (view : IndexView) (inserts group : ℕ) (layers : List LayerAt) (o m : Option Lead) → lent ≡ slots → length slots ≤ 1048576
    → ◌≡◌ {A = IndexView} (record { rules = present slots; inserts = inserts }) view → o ≡ m → IsBest lent group layers o
    → option_map (λ (lead : Lead). lead.id) m ≡ option_map (λ (rule : RuleView). rule.id) (spec.best view.rules group layers)
best_is slots lent view inserts group layers o m same short is e best =
    id_of_best slots group layers m (omega (arith, short)) (subst (λ (x : Option Lead). IsBest slots group layers x) e (subst (λ (xs : List (Option RuleView)). IsBest xs group layers o) same best))
    ∙ ap (λ (v : IndexView). option_map (λ (rule : RuleView). rule.id) (spec.best v.rules group layers)) is

pub returns-in-None : goal.returns-in-None
returns-in-None c = best_is _ _ _ _ c.args.group c.args.key.now _ _ c.as_slice.ensures.value c.self.invariant.indexed.short c.self.view_is c.in-None.is c.best_of.ensures

pub returns-in-Some : goal.returns-in-Some
returns-in-Some c = best_is _ _ _ _ c.args.group c.args.key.now _ _ c.as_slice.ensures.value c.self.invariant.indexed.short c.self.view_is c.in-Some.is c.best_of.ensures
