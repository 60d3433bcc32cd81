use Rattle.std.proofs.Common.{◌≡◌, ◌+◌, ◌≤◌, ◌||◌, Bool, true, false, List, length, drop, Some, sym, ap, ◌∙◌, arith}
use Rattle.std.specs.List.{list_any, slice_get}
use Rattle.std.proofs.lemmas.List.Folds.{list_any-append}
use Rattle.slot_pool.specs.declared.handle.Handle.{Handle}
use Rattle.slot_pool.specs.Links.{members}
use Rattle.slot_pool.specs.Pool.{get}
use Rattle.slot_pool.proofs.Walks.{slice_get-Contains}
use Rattle.rules_in_effect.specs.declared.in_effect.InEffect.{InEffect}
use Rattle.rules_in_effect.specs.Entries.{is_user}
use Rattle.rules_in_effect.specs.Order.{OrderView, entries}
use Rattle.rules_in_effect.specs.OrderInside.{lodged, lodged_under}
use Rattle.rules_in_effect.proofs.Kept.{entries-kept, lodged_under-more, lodged_under-all}
use Rattle.rules_in_effect.proofs.order.Order.is_used.Goals as goal

pub returns-then-is_used_in : goal.returns-then-is_used_in
returns-then-is_used_in c =
    let handles : List Handle = members c.self.inside.pool.links c.self.inside.chain in
    let is : slice_get handles c.loop-place._place ≡ Some c.in-Some.handle = sym c.loop-place.invariant.0 ∙ c.in-Some.is in
    let any : List InEffect → Bool = list_any (is_user c.args.id) in
    let rest : List InEffect = lodged_under (get c.self.inside.pool) (drop (c.loop-place._place + 1) handles) in
    let here : true ≡ any (lodged (get c.self.inside.pool c.in-Some.handle)) = c.if-is_used_in.ensures ∙ ap any c.lodged_in.ensures in
    ap (λ b. b || any rest) here
    ∙ sym (list_any-append (is_user c.args.id) (lodged (get c.self.inside.pool c.in-Some.handle)) rest)
    ∙ ap any (sym (lodged_under-more (get c.self.inside.pool) handles c.loop-place._place c.in-Some.handle is))
    ∙ c.loop-place.invariant.1
    ∙ ap any (sym (entries-kept (get c.self.inside.pool) handles))
    ∙ ap (λ (v : OrderView). any (entries v.kept)) c.self.view_is

pub next-at-requires-clause-member : goal.next-at-requires-clause-member
next-at-requires-clause-member c =
    let handles : List Handle = members c.self.inside.pool.links c.self.inside.chain in
    slice_get-Contains handles c.loop-place._place c.in-Some.handle (sym c.loop-place.invariant.0 ∙ c.in-Some.is)

pub loop-place-preserved : goal.loop-place-preserved
loop-place-preserved c =
    let handles : List Handle = members c.self.inside.pool.links c.self.inside.chain in
    let is : slice_get handles c.loop-place._place ≡ Some c.in-Some.handle = sym c.loop-place.invariant.0 ∙ c.in-Some.is in
    let any : List InEffect → Bool = list_any (is_user c.args.id) in
    let rest : List InEffect = lodged_under (get c.self.inside.pool) (drop (c.loop-place._place + 1) handles) in
    let here : false ≡ any (lodged (get c.self.inside.pool c.in-Some.handle)) = c.if-is_used_in.ensures ∙ ap any c.lodged_in.ensures in (
      c.next-at.ensures.value c.loop-place._place is,
      ap (λ b. b || any rest) here
          ∙ sym (list_any-append (is_user c.args.id) (lodged (get c.self.inside.pool c.in-Some.handle)) rest)
          ∙ ap any (sym (lodged_under-more (get c.self.inside.pool) handles c.loop-place._place c.in-Some.handle is))
          ∙ c.loop-place.invariant.1,
    )

pub returns : goal.returns
returns c =
    let handles : List Handle = members c.self.inside.pool.links c.self.inside.chain in
    let any : List InEffect → Bool = list_any (is_user c.args.id) in
    let past : length handles ≤ c.loop-place._place = omega (arith, c.self.invariant.number) in
    ap any (sym (lodged_under-all (get c.self.inside.pool) handles c.loop-place._place past))
    ∙ c.loop-place.invariant.1
    ∙ ap any (sym (entries-kept (get c.self.inside.pool) handles))
    ∙ ap (λ (v : OrderView). any (entries v.kept)) c.self.view_is
