use Rattle.std.proofs.Common.{◌≡◌, ◌^◌, ap, ◌∙◌, arith}
use Rattle.rule_words.specs.Address.{factor_of, width_of}
use Rattle.rule_words.proofs.Groups.{power-is}
use Rattle.rule_words.proofs.address.read_whole.Goals as goal

pub returns-clause-small : goal.returns-clause-small
returns-clause-small c =
    let a = c.args.address in
    let power : factor_of a ^ c.in_ok-groups.groups.count ≡ 2 ^ width_of a = ap (λ n. factor_of a ^ n) (c.if-groups-most_groups.false ∙ c.most_groups.ensures) ∙ power-is a in
    omega (arith, power, c.in_ok-groups.ensures.small)
