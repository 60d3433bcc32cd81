use Rattle.std.proofs.Common.{◌≡◌, ℕ, ◌+◌, ◌-◌, refl, subst, arith}
use Rattle.port_state.specs.KeptState.{state_in}
use Rattle.port_state.specs.State.{queue_at}
use Rattle.port_state.proofs.Pushing.{IsPushing, goes-step, pushes-step}
use Rattle.port_state.proofs.state.State.push.Goals as goal

pub loop-preserved : goal.loop-preserved
loop-preserved c =
    let q = c.args.queue in
    let k = c.loop.self in
    let rxq = c.args.limits.now.rxq in
    let held = (queue_at q (state_in k)).held in
    let left : ℕ = c.held_number-end.result - (c.loop.counter + 1) in
    let one : c.held_number-end.result - c.loop.counter ≡ left + 1 = omega (arith, c.loop-test.true) in
    let pushing = subst (λ n. IsPushing q n c.loop.changes.room rxq k) one c.loop.invariant.0 in (
      pushes-step q left c.loop.changes.room c.step_queue.new.changes.room rxq k c.step_queue.new.self held refl c.step_queue.ensures.state
          c.step_queue.ensures.kept c.step_queue.ensures.room c.step_queue.ensures.changes_room pushing,
      goes-step q c.args.self.now k c.step_queue.new.self c.args.changes.now.list c.loop.changes.list c.step_queue.new.changes.list held refl (omega (arith, pushing.many))
          c.step_queue.ensures.state c.step_queue.ensures.changes c.step_queue.ensures.counts c.loop.invariant.1,
      omega (arith, c.loop-test.true),
    )
