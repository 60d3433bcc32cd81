use Rattle.std.proofs.Common.{◌≡◌, drop, None}
use Rattle.std.specs.List.{slice_get}
use Rattle.std.specs.Option.{option_map}
use Rattle.slot_pool.specs.Links.{members}
use Rattle.slot_pool.specs.Pool.{get}
use Rattle.rules_in_effect.specs.OrderInside.{lodged_under}
use Rattle.rules_in_effect.specs.Scan.{scanned}
use Rattle.rules_in_effect.proofs.order.Order.best.Given as goal

-- the place of the handle, and the scan of the rules that are left ends as that of all
abbrev pub invariant-loop-place : goal.invariant-loop-place
invariant-loop-place l =
    let handles = members l.self-inside.pool.links l.self-inside.chain in
    (l.at ≡ slice_get handles l._place)
    × (scanned l.group l.key (option_map (λ rule. rule.now) l.best) (lodged_under (get l.self-inside.pool) (drop l._place handles)) ≡ scanned l.group l.key None (lodged_under (get l.self-inside.pool) handles))
