use Rattle.std.proofs.Common.{◌≡◌, ◌∙◌, ◌+◌, [], ◌∷◌, true, length, Some, ap, arith}
use Rattle.std.proofs.lemmas.List.{length-append}
use Rattle.std.proofs.lemmas.List.Elements.{All-pop}
use Rattle.running_phase.specs.declared.actors.Actor.{Actor}
use Rattle.running_phase.specs.Actors.{is_worker}
use Rattle.running_phase.proofs.Seats.{all_workers}
use Rattle.running_phase.proofs.seating.seat_all.Goals as goal

pub returns-clause-workers : goal.returns-clause-workers
returns-clause-workers c =
    let seated = c.seat_workers.new.actors.items in
    let rest = c.pop.new.self.items in
    let lead = c.in-Some.lead in
    let others = All-pop (λ (a : Actor). is_worker a ≡ true) seated rest (Some lead) c.in-Some.ensures.items c.in_ok-seat_workers.ensures.workers in
    let fewer : length seated ≡ length rest + 1 = ap length c.in-Some.ensures.items ∙ length-append rest (lead ∷ []) in
    omega (arith, c.in_ok-seat_askers.ensures.workers, all_workers rest others.0, fewer, c.in_ok-seat_workers.ensures.count)
