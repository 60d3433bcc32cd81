use Rattle.std.proofs.Common.{◌-◌, ◌≤◌, arith}
use Rattle.std.proofs.Math.Pow.{pow_mono}
use Rattle.rule_words.proofs.relations.read_prefix.Goals as goal

pub overflow_sub-result : goal.overflow_sub-result
overflow_sub-result c =
    let less : c.args.bits - c.in_ok-len.field-0 ≤ c.args.bits = omega arith in
    omega (arith, pow_mono less, c.ones.ensures, c.ones-2.ensures)
