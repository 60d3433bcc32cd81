use Rattle.std.proofs.Common.{refl}
use Rattle.io_edges.specs.Kept.{untold_state}
use Rattle.testpmd_shell.proofs.Allowing.{allows-all}
use Rattle.flowpmd.proofs.main.Goals as goal

pub session-status-requires-clause-allowed : goal.session-status-requires-clause-allowed
session-status-requires-clause-allowed g c κs = allows-all _ (untold_state _ _ _ _) (λ slot name. refl) (λ name. refl)
