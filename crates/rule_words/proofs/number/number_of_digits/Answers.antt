-- Where the value comes to the limit, no digit that is left makes it less.
use Rattle.std.proofs.Common.{◌≡◌, ◌<◌, ◌+◌, ◌*◌, ◌^◌, eqb, false, length, None, Some, get_or, arith, ap, sym, ◌∙◌}
use Rattle.std.proofs.lemmas.List.{at_drop_all}
use Rattle.rule_words.specs.Number.{number_from, digit_of, below}
use Rattle.rule_words.proofs.Digits.{below-number_at, digit_of-is, great-from_below, below-small, number_in-some}
use Rattle.rule_words.proofs.number.number_of_digits.Goals as goal

pub returns-in_err-value : goal.returns-in_err-value
returns-in_err-value c =
    let i = c.loop-digit.digit-index in
    let digits = c.args.digits.now in
    let within : i < length digits = omega arith in
    let is : digit_of c.args.base (get_or digits i 0) ≡ Some c.in_ok-next.next =
    ap (digit_of c.args.base) (sym c.from.ensures) ∙ digit_of-is c.args.base c.from.result c.in_ok-next.next (c.in_ok-next.ensures.value.0, sym c.in_ok-next.ensures.value.1) in
    let over : None ≡ below (2 ^ 128) (Some (c.loop-digit.value * c.args.base + c.in_ok-next.next)) = c.in_err-value.ensures in
    let none = below-number_at (2 ^ 128) c.args.base c.loop-digit.value i c.in_ok-next.next (digit_of c.args.base) digits 0 (omega arith) within is (great-from_below _ _ over) in
    let some : eqb (length digits) 0 ≡ false = sym c.is_empty.ensures ∙ c.if-is_empty.false in
    c.from_residual-in_err-value.ensures ∙ sym none ∙ c.loop-digit.invariant.1
    ∙ ap (below (2 ^ 128)) (sym (number_in-some c.args.base digits some))

pub returns : goal.returns
returns c =
    let digits = c.args.digits.now in
    let some : eqb (length digits) 0 ≡ false = sym c.is_empty.ensures ∙ c.if-is_empty.false in
    sym (below-small (2 ^ 128) c.loop-digit.value (omega arith))
    ∙ sym (at_drop_all (λ ds. below (2 ^ 128) (number_from (digit_of c.args.base) c.args.base c.loop-digit.value ds)) digits c.loop-digit.digit-index (omega arith))
    ∙ c.loop-digit.invariant.1 ∙ ap (below (2 ^ 128)) (sym (number_in-some c.args.base digits some))
