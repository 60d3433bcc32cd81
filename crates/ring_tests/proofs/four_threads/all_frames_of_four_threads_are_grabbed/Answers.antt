use Rattle.std.proofs.Common.{rules}
use Rattle.ring_tests.proofs.Numbered.{Numbered-new}
use Rattle.ring_tests.proofs.four_threads.all_frames_of_four_threads_are_grabbed.Goals as goal

pub new_hands-hands-requires-clause-numbers : goal.new_hands-hands-requires-clause-numbers
new_hands-hands-requires-clause-numbers g c = Numbered-new _ 4 (search rules) c.in_ok-ring.ensures.numbers
