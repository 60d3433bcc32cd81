use Rattle.std.proofs.Common.{◌≡◌, ◌+◌, ◌≤◌, List, length, map, drop, Option, Some, sym, ap, ◌∙◌, arith}
use Rattle.std.specs.List.{slice_get}
use Rattle.std.specs.Option.{option_map}
use Rattle.std.proofs.lemmas.List.Sums.{fold-append}
use Rattle.slot_pool.specs.declared.handle.Handle.{Handle}
use Rattle.slot_pool.specs.Links.{members}
use Rattle.slot_pool.specs.Pool.{get}
use Rattle.flow_rules.specs.RuleView.{RuleView}
use Rattle.flow_rules.specs.Best.{best}
use Rattle.rules_in_effect.specs.declared.in_effect.InEffect.{InEffect}
use Rattle.rules_in_effect.specs.Entries.{rule_in}
use Rattle.rules_in_effect.specs.Order.{OrderView, entries}
use Rattle.rules_in_effect.specs.OrderInside.{lodged, lodged_under}
use Rattle.rules_in_effect.specs.Scan.{scanned}
use Rattle.rules_in_effect.proofs.Kept.{entries-kept, lodged_under-more, lodged_under-all}
use Rattle.rules_in_effect.proofs.Scanning.{scan_is_best}
use Rattle.rules_in_effect.proofs.order.Order.best.Goals as goal

pub loop-place-preserved : goal.loop-place-preserved
loop-place-preserved c =
    let handles : List Handle = members c.self.inside.pool.links c.self.inside.chain in
    let is : slice_get handles c.loop-place._place ≡ Some c.in-Some.handle = sym c.loop-place.invariant.0 ∙ c.in-Some.is in
    let so_far : Option RuleView = option_map (λ rule. rule.now) c.loop-place.best in
    let scan : Option RuleView → List InEffect → Option RuleView = scanned c.args.group c.args.key.now in
    let here : List InEffect = lodged (get c.self.inside.pool c.in-Some.handle) in
    let rest : List InEffect = lodged_under (get c.self.inside.pool) (drop (c.loop-place._place + 1) handles) in (
      c.next-at.ensures.value c.loop-place._place is,
      ap (λ b. scan b rest) (c.better_of-best.ensures ∙ ap (scan so_far) c.lodged_in.ensures)
          ∙ sym (fold-append _ so_far here rest)
          ∙ ap (scan so_far) (sym (lodged_under-more (get c.self.inside.pool) handles c.loop-place._place c.in-Some.handle is))
          ∙ c.loop-place.invariant.1,
    )

pub returns : goal.returns
returns c =
    let handles : List Handle = members c.self.inside.pool.links c.self.inside.chain in
    let so_far : Option RuleView = option_map (λ rule. rule.now) c.loop-place.best in
    let past : length handles ≤ c.loop-place._place = omega (arith, c.self.invariant.number) in
    ap (scanned c.args.group c.args.key.now so_far) (sym (lodged_under-all (get c.self.inside.pool) handles c.loop-place._place past))
    ∙ c.loop-place.invariant.1
    ∙ scan_is_best c.args.group c.args.key.now (lodged_under (get c.self.inside.pool) handles)
    ∙ ap (λ list. best (map rule_in list) c.args.group c.args.key.now) (sym (entries-kept (get c.self.inside.pool) handles))
    ∙ ap (λ (v : OrderView). best (map rule_in (entries v.kept)) c.args.group c.args.key.now) c.self.view_is
