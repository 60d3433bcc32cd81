use denote.Param.Send.{sendable}
use Rattle.frame_ring.proofs.SharedPasses.{pass_sync, passes_sync}
use Rattle.ring_tests.proofs.small_rings.all_cross.Goals as goal

pub is_shared-requires-2-sync-T : goal.is_shared-requires-2-sync-T
is_shared-requires-2-sync-T κs = search (sendable, pass_sync)

pub is_shared-requires-3-sync-T : goal.is_shared-requires-3-sync-T
is_shared-requires-3-sync-T κs = search (sendable, passes_sync)
