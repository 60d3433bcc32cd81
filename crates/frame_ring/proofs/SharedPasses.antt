-- Threads may share a pass by reference: a `&` to a queue's pass holds a share of what the pass owns, and that may go to another thread, as a buffer may.
-- No search finds this by itself, since the base crate has `Send` of its seat alone. A function that shares a pass or a list of passes cites it in its answers:
--     search (sendable, pass_sync, passes_sync)
use denote.RattleType.{RattleType}
use denote.Param.Send.{IsSend, IsSync, part_keyless, sendable}
use Rattle.crossbeam_queue.below.atomic_table.specs.contracts.shared.Seat as seat
use Rattle.crossbeam_queue.below.atomic_table.proofs.shared.Seat.TheSendSync.{the_send}
use Rattle.std.proofs.Crossing.{Vec-sync}
use Rattle.std.specs.contracts.option.Option as option
use Rattle.crossbeam_queue.specs.contracts.array_queue.Doing as doing
use Rattle.frame_ring.specs.contracts.buffer.Buffer as buffer
use Rattle.frame_ring.proofs.buffer.Buffer.TheSendSync as sent
use Rattle.frame_ring.specs.contracts.pass.Gathered as gathered
use Rattle.frame_ring.specs.contracts.pass.RingPass as pass
use Rattle.frame_ring.specs.contracts.pass.RingPasses as passes
use Rattle.frame_ring.specs.contracts.view.FreeView as free
use Rattle.frame_ring.specs.contracts.view.RingView as ring

seat_sync : (S V : RattleType) → IsSend S → IsSync (seat.the_row S V)
seat_sync S V s = record { shared = λ d b o ν q. part_keyless (seat.the_row S V) (the_send S V s) q d b o }

queue_sync : (V : RattleType) → IsSync (seat.the_row (option.the_row buffer.the_row) (doing.the_row buffer.the_row V))
queue_sync V =
    let frame : IsSend buffer.the_row = sent.the_send in
    let item : IsSend (option.the_row buffer.the_row) = search sendable depth 20 in
    seat_sync (option.the_row buffer.the_row) (doing.the_row buffer.the_row V) item

pub pass_sync : IsSync pass.the_row
pass_sync = let in_ring = queue_sync ring.the_row in let in_free = queue_sync free.the_row in search sendable depth 20

gathered_sync : IsSync gathered.the_row
gathered_sync = let in_ring = queue_sync ring.the_row in let in_free = queue_sync free.the_row in search sendable depth 20

pub passes_sync : IsSync passes.the_row
passes_sync = let each = Vec-sync pass.the_row pass_sync in let all = gathered_sync in search sendable depth 20
