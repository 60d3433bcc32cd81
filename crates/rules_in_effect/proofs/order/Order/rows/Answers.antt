use Rattle.std.proofs.Common.{◌≡◌, ◌+◌, ◌≤◌, ◌++◌, List, length, map, drop, Some, sym, ap, ◌∙◌, arith}
use Rattle.std.specs.List.{slice_get}
use Rattle.std.proofs.lemmas.List.{append_assoc, append-nil}
use Rattle.slot_pool.specs.declared.handle.Handle.{Handle}
use Rattle.slot_pool.specs.Links.{members}
use Rattle.slot_pool.specs.Pool.{get}
use Rattle.rules_in_effect.specs.declared.in_effect.InEffect.{InEffect}
use Rattle.rules_in_effect.specs.Order.{OrderView, entries}
use Rattle.rules_in_effect.specs.OrderInside.{lodged, lodged_under}
use Rattle.rules_in_effect.proofs.Kept.{entries-kept, lodged_under-more, lodged_under-all}
use Rattle.rules_in_effect.proofs.order.Order.rows.Goals as goal

pub loop-place-preserved : goal.loop-place-preserved
loop-place-preserved c =
    let handles : List Handle = members c.self.inside.pool.links c.self.inside.chain in
    let is : slice_get handles c.loop-place._place ≡ Some c.in-Some.handle = sym c.loop-place.invariant.0 ∙ c.in-Some.is in
    let so_far : List InEffect = map (λ row. row.now) c.loop-place.rows.items in
    let here : List InEffect = lodged (get c.self.inside.pool c.in-Some.handle) in
    let rest : List InEffect = lodged_under (get c.self.inside.pool) (drop (c.loop-place._place + 1) handles) in (
      c.next-at.ensures.value c.loop-place._place is,
      ap (λ rows. rows ++ rest) (c.in_ok-add_rows.ensures ∙ ap (λ more. so_far ++ more) c.lodged_in.ensures)
          ∙ append_assoc so_far here rest
          ∙ ap (λ more. so_far ++ more) (sym (lodged_under-more (get c.self.inside.pool) handles c.loop-place._place c.in-Some.handle is))
          ∙ c.loop-place.invariant.1,
    )

pub returns : goal.returns
returns c =
    let handles : List Handle = members c.self.inside.pool.links c.self.inside.chain in
    let so_far : List InEffect = map (λ row. row.now) c.loop-place.rows.items in
    let past : length handles ≤ c.loop-place._place = omega (arith, c.self.invariant.number) in
    sym (append-nil so_far)
    ∙ ap (λ more. so_far ++ more) (sym (lodged_under-all (get c.self.inside.pool) handles c.loop-place._place past))
    ∙ c.loop-place.invariant.1
    ∙ sym (entries-kept (get c.self.inside.pool) handles)
    ∙ ap (λ (v : OrderView). entries v.kept) c.self.view_is
