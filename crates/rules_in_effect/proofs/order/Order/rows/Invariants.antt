use Rattle.std.proofs.Common.{◌≡◌, ◌++◌, drop, map}
use Rattle.std.specs.List.{slice_get}
use Rattle.slot_pool.specs.Links.{members}
use Rattle.slot_pool.specs.Pool.{get}
use Rattle.rules_in_effect.specs.OrderInside.{lodged_under}
use Rattle.rules_in_effect.proofs.order.Order.rows.Given as goal

-- the place of the handle, and the rows so far with those that are left
abbrev pub invariant-loop-place : goal.invariant-loop-place
invariant-loop-place l =
    let handles = members l.self-inside.pool.links l.self-inside.chain in
    (l.at ≡ slice_get handles l._place)
    × (map (λ row. row.now) l.rows.items ++ lodged_under (get l.self-inside.pool) (drop l._place handles) ≡ lodged_under (get l.self-inside.pool) handles)
