use Rattle.std.proofs.Common.{◌≡◌, length, is_some, false, arith, ap, sym, ◌∙◌}
use Rattle.flow_grammar.proofs.Counting.{counted-start}
use Rattle.flow_grammar.proofs.draft.Draft.start.Goals as goal

pub returns-clause-counted : goal.returns-clause-counted
returns-clause-counted c =
    let old = c.args.self.now in
    let none : is_some old.opening ≡ false = sym c.is_some.ensures ∙ c.if-is_some.false in
    let counted = counted-start old.parts.items c.end_section.new.self.parts.items old.opening old.calls old.count none c.requires.counted c.in_ok-end_section.ensures.parts in
    omega (arith, counted, c.end_section.ensures.count, ap length c.in_ok-end_section.ensures.calls)
