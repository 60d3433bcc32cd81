use Rattle.std.proofs.Common.{◌≡◌, drop}
use Rattle.flow_rules.specs.Faults.{is_named}
use Rattle.flow_rules.proofs.validation.is_named.Given as goal

-- none of the items so far says it
abbrev pub invariant-loop-item : goal.invariant-loop-item
invariant-loop-item l = is_named l.edit (drop l.item-index l.pattern) ≡ is_named l.edit l.pattern
