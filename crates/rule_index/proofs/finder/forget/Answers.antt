use Rattle.std.proofs.Common.{◌≡◌, ◌∙◌, ap, arith, List, Option, None, Some, sym, subst, slice_set}
use Rattle.std.proofs.lemmas.Option.{slice_get-get_or, slice_get_within}
use Rattle.std.specs.Option.{option_map}
use Rattle.flow_rules.specs.RuleView.{RuleView}
use Rattle.rule_index.specs.declared.chain.RulePlace.{RulePlace}
use Rattle.rule_index.specs.Places.{home_at, IsFirst}
use Rattle.rule_index.specs.Index.{Indexed, chain_of, place_of}
use Rattle.rule_index.proofs.Removal.{Indexed-cleared}
use Rattle.rule_index.proofs.finder.forget.Goals as goal

pub returns-clause-indexed : goal.returns-clause-indexed
returns-clause-indexed c =
    let first : IsFirst None (slice_set c.args.slots.now c.args.place None) c.args.finder.now.places.items c.index.result.now.home c.args.place c.first_taken-next.result =
    subst (λ (s : Option RuleView). IsFirst None (slice_set c.args.slots.now c.args.place s) c.args.finder.now.places.items c.index.result.now.home c.args.place c.first_taken-next.result) c.clear.ensures
    (subst (λ (xs : List RulePlace). IsFirst None (slice_set c.args.slots.now c.args.place c.clear.new.self) xs c.index.result.now.home c.args.place c.first_taken-next.result) c.as_slice.ensures.value c.first_taken-next.ensures) in
    let of_home : home_at c.args.finder.now.places.items c.args.place ≡ Some c.index.result.now.home =
    ap (option_map (λ (x : RulePlace). x.home)) (slice_get-get_or c.args.finder.now.places.items c.args.place c.index.result.now (let at = slice_get_within c.args.slots.now c.args.place (Some c.requires.place.rule) c.requires.place.at in omega (arith, at, c.requires.indexed.long)))
    ∙ ap (λ (x : RulePlace). Some x.home) (sym c.index.ensures) in
    subst (λ (s : Option RuleView). Indexed (slice_set c.args.slots.now c.args.place s) c.args.finder.now.tables.list c.args.finder.now.places.items
    (chain_of (record { tables = c.args.finder.now.tables; places = c.args.finder.now.places; chains = c.advance.new.chains; ids = c.remove.new.self }))
    (place_of (record { tables = c.args.finder.now.tables; places = c.args.finder.now.places; chains = c.advance.new.chains; ids = c.remove.new.self }))) (sym c.clear.ensures)
    (Indexed-cleared c.args.slots.now c.args.finder.now.tables.list c.args.finder.now.places.items (chain_of c.args.finder.now) _ (place_of c.args.finder.now) _ c.args.id c.args.place c.index.result.now.home c.first_taken-next.result
    c.requires.place of_home first c.advance.ensures c.remove.ensures.updates.2 c.requires.indexed)
