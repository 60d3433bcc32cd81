use Rattle.std.proofs.Common.{rules, List, Option, is_some, filter, sym, ap, subst, ◌∙◌}
use Rattle.std.proofs.lemmas.Fn.{filter_same}
use Rattle.flow_rules.specs.RuleView.{RuleView}
use Rattle.rule_index.specs.Index.{Indexed, chain_of, place_of, AreDistinct}
use Rattle.rule_index.proofs.Removal.{distinct}
use Rattle.rule_index.proofs.finder.renew.Goals as goal

pub renewed-requires-clause-distinct : goal.renewed-requires-clause-distinct
renewed-requires-clause-distinct c = subst AreDistinct (sym c.as_slice.ensures.value)
    (distinct c.args.slots.now.items c.args.finder.now.tables.list c.args.finder.now.places.items (chain_of c.args.finder.now) (place_of c.args.finder.now) c.requires)

pub returns-clause-ok : goal.returns-clause-ok
returns-clause-ok c = filter_same _ is_some _ (λ x b q h. search rules) _ _ c.retain.ensures.filtered

pub returns-clause-indexed : goal.returns-clause-indexed
returns-clause-indexed c =
    subst (λ (xs : List (Option RuleView)). Indexed xs c.in_ok-fresh.fresh.tables.list c.in_ok-fresh.fresh.places.items (chain_of c.in_ok-fresh.fresh) (place_of c.in_ok-fresh.fresh))
    (ap (filter is_some) c.as_slice.ensures.value ∙ sym (filter_same _ is_some _ (λ x b q h. search rules) _ _ c.retain.ensures.filtered)) c.in_ok-fresh.ensures
