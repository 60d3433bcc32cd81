-- A number that has more than 128 bits has more than a field's.
use Rattle.std.proofs.Common.{◌≡◌, ◌^◌, ◌≤◌, None, ap, ◌∙◌}
use Rattle.std.proofs.Math.Pow.{pow_mono}
use Rattle.rule_words.specs.Number.{number_of, below}
use Rattle.rule_words.proofs.Digits.{below-below}
use Rattle.rule_words.proofs.number.number_of_bits.Goals as goal

pub returns-in_err-value-clause-value : goal.returns-in_err-value-clause-value
returns-in_err-value-clause-value c =
    let within : 2 ^ c.args.bits ≤ 2 ^ 128 = pow_mono c.requires in
    let none : None ≡ below (2 ^ 128) (number_of c.args.word.now) = c.in_err-value.ensures in
    c.from_residual.ensures ∙ ap (below (2 ^ c.args.bits)) none
    ∙ below-below (2 ^ c.args.bits) (2 ^ 128) (number_of c.args.word.now) within
