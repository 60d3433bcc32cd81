use Rattle.std.proofs.Common.{◌≡◌, ◌+◌, [], ◌∷◌, All, length, length-append, sym, ap, ◌∙◌, subst}
use Rattle.std.proofs.lemmas.List.Elements.{All-push}
use Rattle.replica.specs.Caught.{ReplicaView}
use Rattle.flow_port.specs.Standing.{Stands}
use Rattle.flow_port.proofs.Standing.{Stands-start}
use Rattle.testpmd_shell.proofs.threads.new_replicas.Goals as goal

pub loop-preserved : goal.loop-preserved
loop-preserved c =
    let limits = c.args.limits in
    let replica = c.in_ok-new.field-0 in
    let before = c.loop.replicas.items in
    let pushed = c.in_ok-push.ensures.items in
    let longer : length c.push.new.self.items ≡ length before + 1 = ap length pushed ∙ length-append before (replica ∷ []) in
    record {
      stand = subst (All (λ (r : ReplicaView). Stands limits [] r)) (sym pushed)
          (All-push (λ (r : ReplicaView). Stands limits [] r) before replica c.loop.invariant.stand (subst (λ (r : ReplicaView). Stands limits [] r) (sym c.in_ok-new.ensures) (Stands-start limits)));
      count = longer ∙ ap (λ n. n + 1) c.loop.invariant.count;
    }
