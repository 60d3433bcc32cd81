use Rattle.std.proofs.Common.{refl}
use Rattle.io_edges.specs.MemShelfState.{shelf_state}
use Rattle.testpmd_shell.proofs.Allowing.{allows-all}
use Rattle.test_sessions.proofs.sessions.run_serial.Goals as goal

pub session_serial-status-requires-clause-allowed : goal.session_serial-status-requires-clause-allowed
session_serial-status-requires-clause-allowed c = allows-all _ (shelf_state c.in_ok-shelf.shelf) (λ slot name. refl) (λ name. refl)
