use Rattle.std.proofs.Common.{◌^◌, ◌<◌, IfSome, arith, subst, sym, ◌∙◌}
use Rattle.rule_words.proofs.Bounds.{hexadecimal-is, hexadecimal-lt}
use Rattle.rule_words.proofs.address.hexadecimal.Goals as goal

pub returns-clause-value : goal.returns-clause-value
returns-clause-value c =
    c.number_of_digits.ensures ∙ hexadecimal-is c.args.most c.args.text.now (omega arith) (omega arith)

pub returns-clause-small : goal.returns-clause-small
returns-clause-small c =
    let is = c.number_of_digits.ensures ∙ hexadecimal-is c.args.most c.args.text.now (omega arith) (omega arith) in
    subst (λ o. IfSome o (λ n. n < 16 ^ c.args.most)) (sym is) (hexadecimal-lt c.args.most c.args.text.now)
