use Rattle.std.proofs.Common.{◌+◌, Some, take, false, ap, sym, ◌∙◌, true}
use Rattle.std.proofs.lemmas.List.{take_rest}
use Rattle.rule_words.proofs.Sides.{sides-step}
use Rattle.rule_words.proofs.address.sides.Goals as goal

pub returns-then-starts_with : goal.returns-then-starts_with
returns-then-starts_with c =
    let text = c.args.text.now in
    let i = c.loop-i.i in
    ap (λ back. Some (take i text, back)) (take_rest text (i + 2))
    ∙ sym (sides-step text i true c.loop-i-test.true (sym c.if-starts_with.true ∙ c.starts_with.ensures.value))
    ∙ c.loop-i.invariant

pub loop-i-preserved : goal.loop-i-preserved
loop-i-preserved c =
    let text = c.args.text.now in
    let i = c.loop-i.i in
    sym (sides-step text i false c.loop-i-test.true (sym c.if-starts_with.false ∙ c.starts_with.ensures.value))
    ∙ c.loop-i.invariant
