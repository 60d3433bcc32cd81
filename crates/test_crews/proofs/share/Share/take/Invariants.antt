use Rattle.std.proofs.Common.{◌≡◌, ◌-◌, ◌≤◌, length}
use Rattle.test_crews.proofs.Rising.{AreTaken}
use Rattle.test_crews.proofs.share.Share.take.Given as goal

abbrev pub decreases-loop-parcels : goal.decreases-loop-parcels
decreases-loop-parcels l = l.most - length l.parcels.items

abbrev pub invariant-loop-parcels : goal.invariant-loop-parcels
invariant-loop-parcels l = record {
  step : 1 ≤ l.self.step;
  same : (l.self.step ≡ l.initial.self.step) × (l.self.end ≡ l.initial.self.end);
  taken : AreTaken l.initial.self.next l.self.next l.parcels.items;
  most : length l.parcels.items ≤ l.most;
  none : length l.parcels.items ≡ 0 → l.self.next ≡ l.initial.self.next;
}
