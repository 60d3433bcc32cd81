-- Threads may share a seat by reference where its book's value may go to another thread: a `&` to the base crate's seat holds a share of what the seat owns, and that may go.
-- No search finds this by itself, since the base crate has `Send` of its seat alone. A function that shares a seat or a list of seats cites it in its answers:
--     search (sendable, seat_sync, seats_sync)
use denote.RattleType.{RattleType}
use denote.Param.Send.{IsSend, IsSync, part_keyless, sendable}
use Rattle.atomic_table.specs.contracts.shared.Seat as token
use Rattle.atomic_table.proofs.shared.Seat.TheSendSync.{the_send}
use Rattle.std.proofs.Crossing.{Vec-sync}
use Rattle.std.specs.contracts.option.Option as option
use Rattle.turn_book.specs.contracts.seat.Seat as seat
use Rattle.turn_book.specs.contracts.seat.SeatList as seats
use Rattle.turn_book.specs.contracts.view.Knows as knows

token_sync : (S V : RattleType) → IsSend S → IsSync (token.the_row S V)
token_sync S V s = record { shared = λ d b o ν q. part_keyless (token.the_row S V) (the_send S V s) q d b o }

module _ (M E F : RattleType) (s : IsSend M) where
  pub seat_sync : IsSync (seat.the_row M E F)
  seat_sync =
      let value : IsSend (option.the_row M) = search sendable depth 20 in
      let held = token_sync (option.the_row M) (knows.the_row E F) value in
      search sendable depth 20

  pub seats_sync : IsSync (seats.the_row M E F)
  seats_sync = let each = Vec-sync (seat.the_row M E F) seat_sync in search sendable depth 20
