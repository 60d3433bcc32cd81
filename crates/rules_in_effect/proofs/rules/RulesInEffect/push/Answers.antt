use Rattle.std.proofs.Common.{◌≡◌, ◌≢◌, ℕ, ◌+◌, ◌≤◌, ◌^◌, None, Some, sym, ap, ◌∙◌, subst, arith, rules}
use Rattle.flow_rules.specs.RuleView.{RuleView}
use Rattle.rules_in_effect.specs.Entries.{is_plain, entry_at}
use Rattle.rules_in_effect.specs.IdIndex.{find}
use Rattle.rules_in_effect.specs.Inside.{AreNamed}
use Rattle.rules_in_effect.specs.Order.{entries, entry_in}
use Rattle.rules_in_effect.specs.RulesView.{RulesView}
use Rattle.std.proofs.lemmas.List.{length-map, map-append}
use Rattle.std.proofs.lemmas.List.Sums.{count_by-le-length}
use Rattle.rules_in_effect.proofs.Named.{AreNamed-push, plain-push}
use Rattle.rules_in_effect.proofs.rules.RulesInEffect.push.Goals as goal

pub overflow_add-self : goal.overflow_add-self
overflow_add-self c =
    let few = count_by-le-length is_plain (entries c.append-handle.new.self.kept) in
    let long = length-map c.append-handle.new.self.kept entry_in in
    let counted = plain-push (entries c.self.inside.order.kept) (entries c.append-handle.new.self.kept) _ c.self.inside.plain c.one_if_plain.result c.self.invariant.1 c.one_if_plain.ensures
    (ap entries c.append-handle.ensures.kept ∙ map-append entry_in c.self.inside.order.kept _) in
    let small : c.self.inside.plain + c.one_if_plain.result ≤ 2 ^ 31 = omega (arith, few, long, counted, c.append-handle.ensures.few) in
    search (rules, small)

-- the id of the rule that is lent is that of the shared one
own : (lent rule : RuleView) (id : ℕ) → id ≡ lent.id → lent ≡ rule → id ≡ rule.id
own lent rule id is same = is ∙ ap (λ (r : RuleView). r.id) same

pub invariant_of-self : goal.invariant_of-self
invariant_of-self c = (
  subst (AreNamed (find c.insert.new.self)) (sym c.append-handle.ensures.kept)
      (AreNamed-push (find c.self.inside.index) (find c.insert.new.self) c.self.inside.order.kept c.append-handle.result _ c.self.invariant.0 c.append-handle.ensures.fresh
      (subst (λ (v : RulesView). entry_at c.args.rule.id v.list ≡ None) (sym c.self.view_is) c.requires.fresh)
      (subst (λ i. find c.insert.new.self i ≡ Some c.append-handle.result) (own c.get.result.now c.args.rule c.id-id.result c.id-id.ensures c.get.ensures) c.insert.ensures.here)
      (subst (λ i. (a : ℕ) → a ≢ i → find c.insert.new.self a ≡ find c.self.inside.index a) (own c.get.result.now c.args.rule c.id-id.result c.id-id.ensures c.get.ensures) c.insert.ensures.others)),
  plain-push (entries c.self.inside.order.kept) (entries c.append-handle.new.self.kept) _ c.self.inside.plain c.one_if_plain.result c.self.invariant.1 c.one_if_plain.ensures
      (ap entries c.append-handle.ensures.kept ∙ map-append entry_in c.self.inside.order.kept _),
)
