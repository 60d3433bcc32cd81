-- The first fault is that of the items to come, behind those that went before.
use Rattle.std.proofs.Common.{◌≡◌, ◌≤◌, drop}
use Rattle.pattern_items.specs.Faults.{first, faults_from}
use Rattle.pattern_items.specs.Order.{nothing_before}
use Rattle.pattern_items.proofs.faults.fault_of_items.Given as goal

abbrev pub invariant-loop-place : goal.invariant-loop-place
invariant-loop-place l = (l.before.tags ≤ l.place) × (first (faults_from 0 nothing_before l.items) ≡ first (faults_from l.place l.before (drop l.place l.items)))
