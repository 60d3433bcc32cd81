use Rattle.std.proofs.Common.{take, filter, is_some}
use Rattle.rule_index.specs.Index.{IsIndexed}
use Rattle.rule_index.proofs.finder.renewed.Given as goal

abbrev pub invariant-loop-slot : goal.invariant-loop-slot
invariant-loop-slot l = IsIndexed (filter is_some (take l.slot-index l.slots)) l.finder
