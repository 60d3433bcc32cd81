use Rattle.rule_index.proofs.Scans.{Reached}
use Rattle.rule_index.proofs.scan.best_of.Given as goal

abbrev pub invariant-loop-place : goal.invariant-loop-place
invariant-loop-place l = Reached l.slots l.turns l.finder.places.items l.group l.key l.place l.last l.best
