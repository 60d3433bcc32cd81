use Rattle.std.proofs.Common.{refl}
use Rattle.io_edges.specs.MemShelfState.{shelf_state}
use Rattle.testpmd_shell.proofs.Allowing.{allows-all}
use Rattle.test_sessions.proofs.sessions.run_with.Goals as goal

pub session-status-requires-clause-allowed : goal.session-status-requires-clause-allowed
session-status-requires-clause-allowed g c κs within = allows-all _ (shelf_state c.in_ok-shelf.shelf) (λ slot name. refl) (λ name. refl)
