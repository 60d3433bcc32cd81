-- What the tables before this one leave.
use Rattle.std.proofs.Common.{◌≡◌, ◌-◌, take}
use Rattle.std.specs.Map.{values_of}
use Rattle.template_tables.specs.Refusals.{rules_of}
use Rattle.template_tables.proofs.naming.rules_left.Given as goal

abbrev pub invariant-loop-place : goal.invariant-loop-place
invariant-loop-place l = l.left ≡ 65536 - rules_of (take l.place (values_of l.tables.entries))
