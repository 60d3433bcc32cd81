use denote.Param.Send.{sendable}
use Rattle.turn_book.proofs.SharedSeats.{seat_sync, seats_sync}
use Rattle.turn_book_caller.proofs.log.Log.TheSendSync.{the_send}
use Rattle.turn_book_caller.proofs.tests.all_cross.Goals as goal

pub is_shared-requires-2-sync-T : goal.is_shared-requires-2-sync-T
is_shared-requires-2-sync-T κs = search (sendable, the_send, seat_sync)

pub is_shared-requires-3-sync-T : goal.is_shared-requires-3-sync-T
is_shared-requires-3-sync-T κs = search (sendable, the_send, seats_sync)
