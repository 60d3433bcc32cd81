use Rattle.std.specs.Option.{option_copied}
use Rattle.rule_index.proofs.Walks.{Ahead, left}
use Rattle.rule_index.proofs.chain.first_taken.Given as goal

abbrev pub invariant-loop-at : goal.invariant-loop-at
invariant-loop-at l = Ahead (option_copied l.asked) l.kept.slots.now l.kept.places.now l.fn.home l.from l.at

abbrev pub decreases-loop-at : goal.decreases-loop-at
decreases-loop-at l = left l.kept.places.now l.at
