-- The number of the groups before `::`, moved up by those behind it and those that it stands for.
use Rattle.std.proofs.Common.{◌+◌, ◌-◌, ◌*◌, ◌^◌, ◌<◌, length, Some, arith, ap, sym, ◌∙◌}
use Rattle.rule_words.specs.declared.address.Address.TheVariants as address
use Rattle.rule_words.specs.Address.{side_groups}
use Rattle.rule_words.proofs.Filled.{groups_read-is, filled-front_none, filled-back_none, filled-some, filled-lt}
use Rattle.rule_words.proofs.address.read_filled.Goals as goal

pub returns-in_err-high : goal.returns-in_err-high
returns-in_err-high c =
    c.from_residual.ensures ∙ sym (filled-front_none (side_groups c.args.front.now) (side_groups c.args.back.now) (sym c.in_err-high.ensures.value))

pub returns-in_err-low : goal.returns-in_err-low
returns-in_err-low c =
    c.from_residual-in_err-low.ensures ∙ sym (filled-back_none (side_groups c.args.front.now) (side_groups c.args.back.now) (sym c.in_err-low.ensures.value))

pub overflow_add-result : goal.overflow_add-result
overflow_add-result c =
    let bound = filled-lt c.in_ok-high.high.value c.in_ok-low.low.value c.in_ok-high.high.count c.in_ok-low.low.count c.if-high-low-ge8.false c.in_ok-high.ensures.small c.in_ok-low.ensures.small in
    omega (arith, bound, c.moved_up.ensures)

pub returns : goal.returns
returns c =
    let front = side_groups c.args.front.now in
    let back = side_groups c.args.back.now in
    let high = groups_read-is address.Ip6 front c.in_ok-high.high (sym c.in_ok-high.ensures.value) in
    let low = groups_read-is address.Ip6 back c.in_ok-low.low (sym c.in_ok-low.ensures.value) in
    let few : length front + length back < 8 = omega (arith, high.0, low.0, c.if-high-low-ge8.false) in
    ap (λ n. Some (n + c.in_ok-low.low.value)) (c.moved_up.ensures ∙ ap (λ k. c.in_ok-high.high.value * 65536 ^ (8 - k)) (sym high.0))
    ∙ sym (filled-some front back c.in_ok-high.high.value c.in_ok-low.low.value few high.1 low.1)
