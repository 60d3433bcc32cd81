-- What the items before this one ask.
use Rattle.std.proofs.Common.{◌≡◌, ◌≤◌, length, take}
use Rattle.pattern_items.specs.Matches.{tests_of}
use Rattle.pattern_items.proofs.conditions.tests_of.Given as goal

abbrev pub invariant-loop-item : goal.invariant-loop-item
invariant-loop-item l = (length l.tests.items ≤ l.item-index) × (l.tests.items ≡ tests_of (take l.item-index l.items))
