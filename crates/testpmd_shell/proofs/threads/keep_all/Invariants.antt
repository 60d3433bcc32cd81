use Rattle.std.proofs.Common.{◌≡◌, ◌++◌}
use Rattle.testpmd_shell.proofs.threads.keep_all.Given as goal

abbrev pub invariant-loop-copy : goal.invariant-loop-copy
invariant-loop-copy l = l.kept.items ++ l.copy-iterator.rest.items ≡ l.initial.kept.items ++ l.fn.sent.items
