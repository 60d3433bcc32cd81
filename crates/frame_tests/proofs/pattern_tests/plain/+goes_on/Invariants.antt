use Rattle.std.proofs.Common.{length, ◌+◌}
use Rattle.frame_tests.proofs.pattern_tests.plain.+goes_on.Given as goal

abbrev pub decreases-goes_on : goal.decreases-goes_on
decreases-goes_on l = length l.items.now + length l.layers.now
