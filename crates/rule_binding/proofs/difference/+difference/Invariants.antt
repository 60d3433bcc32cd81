use Rattle.std.proofs.Common.{length}
use Rattle.rule_binding.proofs.difference.+difference.Given as goal

abbrev pub decreases-difference : goal.decreases-difference
decreases-difference g l = length l.list.now
