use Rattle.std.proofs.Common.{◌≡◌, ◌-◌, ◌≤◌, false}
use Rattle.edge_tests.proofs.captures.count_frames.Given as goal

abbrev pub invariant-loop-count : goal.invariant-loop-count
invariant-loop-count g l = record {
  running : l.reader.ended ≡ false;
  counted : l.count ≡ l.reader.progress.frames;
  few : l.count ≤ 1048576;
}

abbrev pub decreases-loop-count : goal.decreases-loop-count
decreases-loop-count g l = 1048576 - l.reader.progress.frames
