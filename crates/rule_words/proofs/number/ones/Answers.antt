use Rattle.std.proofs.Common.{◌≡◌, ◌-◌, ◌^◌, arith, ap, ◌∙◌}
use Rattle.std.proofs.lemmas.Nat.Bits.{ones_shr}
use Rattle.rule_words.proofs.number.ones.Goals as goal

pub returns : goal.returns
returns c =
    let same : 128 - (128 - c.args.bits) ≡ c.args.bits = omega arith in
    ones_shr 128 (128 - c.args.bits) (omega arith) ∙ ap (λ n. 2 ^ n - 1) same
