use Rattle.std.proofs.Common.{length, arith, ap}
use Rattle.flow_grammar.specs.Draft.{open_calls}
use Rattle.flow_grammar.proofs.Counting.{counted-end}
use Rattle.flow_grammar.proofs.draft.Draft.stop.Goals as goal

pub returns-clause-counted : goal.returns-clause-counted
returns-clause-counted c =
    let old = c.args.self.now in
    let new = c.end_phase.new.self in
    let counted = counted-end old.parts.items new.parts.items c.in-Some.opening old.opening old.calls c.args.number old.count c.in-Some.is c.requires.counted c.in_ok-end_phase.ensures.parts in
    omega (arith, counted, c.end_phase.ensures.count, ap (λ o. open_calls o new.calls) c.end_phase.ensures.opening, ap length c.in_ok-end_phase.ensures.calls)
