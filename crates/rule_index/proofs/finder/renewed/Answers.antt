use Rattle.std.proofs.Common.{◌≡◌, ◌<◌, List, Option, None, Some, length, take, filter, is_some, arith, sym, ap, subst, ◌∙◌}
use Rattle.std.proofs.lemmas.Option.{slice_get-get_or}
use Rattle.std.specs.List.{slice_get}
use Rattle.std.specs.Option.{option_map}
use Rattle.flow_rules.specs.RuleView.{RuleView}
use Rattle.rule_index.specs.Index.{Indexed, chain_of, place_of}
use Rattle.rule_index.proofs.Renewal.{kept_none, kept_some, kept_short, next_new}
use Rattle.rule_index.proofs.finder.renewed.Goals as goal

pub loop-slot-preserved-in_default : goal.loop-slot-preserved-in_default
loop-slot-preserved-in_default c =
    let none : c.slot-item.result ≡ None = sym c.rule.ensures ∙ ap (option_map (λ rule. rule.now)) c.in_default.is in
    subst (λ (xs : List (Option RuleView)). Indexed xs c.loop-slot.finder.tables.list c.loop-slot.finder.places.items (chain_of c.loop-slot.finder) (place_of c.loop-slot.finder))
    (sym (kept_none c.args.slots.now c.loop-slot.slot-index c.slot-item.result c.loop-slot-test.true (sym c.slot-item.is) none)) c.loop-slot.invariant

pub add-requires : goal.add-requires
add-requires c =
    let lt : c.loop-slot.slot-index < length c.args.slots.now = c.loop-slot-test.true in
    omega (arith, c.loop-slot.invariant.long, kept_short c.args.slots.now c.loop-slot.slot-index, c.requires.few)

pub loop-slot-preserved : goal.loop-slot-preserved
loop-slot-preserved c =
    let lt : c.loop-slot.slot-index < length c.args.slots.now = c.loop-slot-test.true in
    let some : c.slot-item.result ≡ Some c.in-Some.rule.now = sym c.rule.ensures ∙ ap (option_map (λ rule. rule.now)) c.in-Some.is in
    let at : slice_get c.args.slots.now c.loop-slot.slot-index ≡ Some (Some c.in-Some.rule.now) =
    slice_get-get_or c.args.slots.now c.loop-slot.slot-index c.slot-item.result lt ∙ ap (λ (s : Option RuleView). Some s) (sym c.slot-item.is ∙ some) in
    subst (λ (xs : List (Option RuleView)). Indexed xs c.add.new.finder.tables.list c.add.new.finder.places.items (chain_of c.add.new.finder) (place_of c.add.new.finder))
    (sym (kept_some c.args.slots.now c.loop-slot.slot-index c.slot-item.result c.in-Some.rule.now lt (sym c.slot-item.is) some))
    (c.in_ok-add.ensures.ok (filter is_some (take c.loop-slot.slot-index c.args.slots.now)) c.loop-slot.invariant
    (omega (arith, kept_short c.args.slots.now c.loop-slot.slot-index, c.requires.few))
    (next_new c.args.slots.now c.loop-slot.slot-index c.in-Some.rule.now c.requires.distinct at))
