use Rattle.std.proofs.Common.{◌<◌, length, subst, arith}
use Rattle.ring_tests.specs.declared.four_threads.Hand.{Hand}
use Rattle.frame_ring.specs.Rings.{IsPassOf}
use Rattle.ring_tests.proofs.four_threads.act_all.Goals as goal

pub returns : goal.returns
returns g c = λ k d lt.
    let within : k < length c.args.hands.now = omega arith in
    let changed = (c.for_each_mut.ensures k d within).1 in
    let P : Hand → Type 0 = λ h. IsPassOf c.args.ring.now h.pass in
    subst P changed.left changed.call
