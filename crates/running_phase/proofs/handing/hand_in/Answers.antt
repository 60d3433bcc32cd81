use Rattle.std.proofs.Common.{◌≡◌, ◌∙◌, ◌+◌, [], ◌∷◌, false, cond, length, Some, refl, sym, ap, arith}
use Rattle.std.specs.List.{count_by}
use Rattle.std.proofs.lemmas.List.{length-append}
use Rattle.std.proofs.lemmas.List.Elements.{All-pop}
use Rattle.flow_port.specs.Ports.{seats_in}
use Rattle.running_phase.specs.Actors.{IsDone, is_worker, replica_of}
use Rattle.running_phase.proofs.Leaving.{AreLeft-more, AreLeft-none, left_as}
use Rattle.running_phase.proofs.Seats.{one_replica, workers_pushed}
use Rattle.running_phase.proofs.handing.hand_in.Goals as goal

pub loop-actor-preserved : goal.loop-actor-preserved
loop-actor-preserved c =
    let port = c.args.port.now in
    let plan = c.args.plan.now in
    let actor = c.in-Some.actor in
    let before = c.loop-actor.actors.items in
    let rest = c.pop.new.self.items in
    let old = c.loop-actor.invariant in
    let here = c.in_ok-here.ensures in
    let seats = seats_in c.loop-actor.seats in
    let replicas = c.loop-actor.replicas.items in
    let popped = All-pop (IsDone port plan) before rest (Some actor) c.in-Some.ensures.items old.done in
    let fewer : length before ≡ length rest + 1 = ap length c.in-Some.ensures.items ∙ length-append rest (actor ∷ []) in
    let more : length (seats_in c.hand_in_one.new.seats) ≡ length seats + 1 = ap length here.seats ∙ length-append seats (actor.seat ∷ []) in
    let workers : count_by is_worker before ≡ count_by is_worker rest + cond (is_worker actor) 1 0 = ap (count_by is_worker) c.in-Some.ensures.items ∙ workers_pushed rest actor in
    let larger : length c.hand_in_one.new.replicas.items ≡ length replicas + length (replica_of actor.role) = ap length here.replicas ∙ length-append replicas (replica_of actor.role) in
    record {
      done = popped.0;
      left = left_as port plan c.either-failed.result here.seats here.replicas here.lists
          (AreLeft-more port plan c.loop-actor.failed c.either-failed.result seats replicas c.loop-actor.lists.items actor c.either-failed.ensures.one
          (λ none. sym here.failed ∙ c.either-failed.ensures.other none) popped.1 old.left);
      count = omega (arith, old.count, fewer, more);
      workers = omega (arith, old.workers, workers, larger, one_replica actor.role);
      list = here.list;
      limit = here.limit ∙ old.limit;
    }

pub loop-actor-init : goal.loop-actor-init
loop-actor-init c =
    let none = c.requires.none in
    let port = c.args.port.now in
    let plan = c.args.plan.now in
    let no_seats = ap length none.0 in
    let no_replicas = ap length none.1 in
    record {
      done = c.requires.done;
      left = left_as port plan false none.0 none.1 none.2 (AreLeft-none port plan);
      count = omega arith;
      workers = omega arith;
      list = c.requires.list;
      limit = refl;
    }
