use Rattle.std.proofs.Common.{◌≡◌, ◌++◌, map, take}
use Rattle.rules_in_effect.proofs.order.add_rows.Given as goal

abbrev pub invariant-loop-entry : goal.invariant-loop-entry
invariant-loop-entry l = map (λ row. row.now) l.rows.items ≡ map (λ row. row.now) l.initial.rows.items ++ take l.entry-index l.entries
