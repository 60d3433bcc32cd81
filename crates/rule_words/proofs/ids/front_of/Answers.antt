use Rattle.std.proofs.Common.{◌^◌, ◌≤◌, arith}
use Rattle.std.proofs.Math.Pow.{pow_mono}
use Rattle.rule_words.proofs.ids.front_of.Goals as goal

pub overflow_cast-result : goal.overflow_cast-result
overflow_cast-result c =
    let most : 2 ^ c.args.bits ≤ 2 ^ 32 = pow_mono c.requires in
    omega (arith, c.in-Some.ensures.small, most)
