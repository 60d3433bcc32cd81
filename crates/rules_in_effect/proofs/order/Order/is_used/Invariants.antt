use Rattle.std.proofs.Common.{◌≡◌, drop}
use Rattle.std.specs.List.{list_any, slice_get}
use Rattle.slot_pool.specs.Links.{members}
use Rattle.slot_pool.specs.Pool.{get}
use Rattle.rules_in_effect.specs.Entries.{is_user}
use Rattle.rules_in_effect.specs.OrderInside.{lodged_under}
use Rattle.rules_in_effect.proofs.order.Order.is_used.Given as goal

-- the place of the handle, and whether a rule of those that are left is a user tells it of all
abbrev pub invariant-loop-place : goal.invariant-loop-place
invariant-loop-place l =
    let handles = members l.self-inside.pool.links l.self-inside.chain in
    (l.at ≡ slice_get handles l._place)
    × (list_any (is_user l.id) (lodged_under (get l.self-inside.pool) (drop l._place handles)) ≡ list_any (is_user l.id) (lodged_under (get l.self-inside.pool) handles))
