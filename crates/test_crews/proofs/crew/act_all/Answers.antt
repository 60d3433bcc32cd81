use Rattle.std.proofs.Common.{◌<◌, length, subst, arith}
use Rattle.flow_port.specs.Ports.{IsSeatAt}
use Rattle.test_crews.specs.declared.seating.Member.{Member}
use Rattle.test_crews.proofs.crew.act_all.Goals as goal

pub returns : goal.returns
returns g c k d lt =
    let same = c.for_each_mut.auto.s in
    let within : k < length c.args.crew.now = omega (arith, lt, same) in
    let changed = (c.for_each_mut.ensures k d within).1 in
    subst (λ (m : Member). IsSeatAt c.args.port.now m.seat) changed.left changed.call
