use Rattle.std.proofs.Common.{◌≡◌, ◌≤◌, length}
use Rattle.adapter.proofs.kept.stock.fill_stock.Given as goal

-- as many boxes as were counted lie there, and no fewer than at first
abbrev pub invariant-loop : goal.invariant-loop
invariant-loop l = (length l.stock.items ≡ l.counter) × (length l.fn.stock.items ≤ length l.stock.items)
