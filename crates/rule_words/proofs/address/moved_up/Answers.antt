use Rattle.std.proofs.Common.{◌≡◌, ◌+◌, ◌*◌, ◌-◌, ◌<◌, ◌≤◌, ◌^◌, arith, subst}
use Rattle.std.proofs.Math.Nat.{pow-le-pow_right}
use Rattle.rule_words.proofs.Bounds.{place-lt, moved_again}
use Rattle.rule_words.proofs.address.moved_up.Goals as goal

pub overflow_mul-moved : goal.overflow_mul-moved
overflow_mul-moved c =
    let count = 8 - c.args.groups + c.loop.counter in
    let next = place-lt 65536 count c.loop.moved 0 c.loop.invariant.1 (omega arith) in
    let within : count + 1 ≤ 8 = omega arith in
    let most : 65536 ^ (count + 1) ≤ 65536 ^ 8 = pow-le-pow_right (omega arith) within in
    omega (arith, next, most)

pub loop-preserved : goal.loop-preserved
loop-preserved c =
    let count = 8 - c.args.groups + c.loop.counter in
    let next : c.loop.moved * 65536 + 0 < 65536 ^ (count + 1) = place-lt 65536 count c.loop.moved 0 c.loop.invariant.1 (omega arith) in
    let exponent : count + 1 ≡ 8 - c.args.groups + (c.loop.counter + 1) = omega arith in (
      moved_again c.args.value 65536 c.loop.counter c.loop.moved c.loop.invariant.0,
      subst (λ k. c.loop.moved * 65536 < 65536 ^ k) exponent (omega (arith, next)),
    )
