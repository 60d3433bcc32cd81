use Rattle.std.proofs.Common.{◌≡◌, ◌+◌, [], ◌∷◌, ◌++◌, length, arith, ap, subst, sym}
use Rattle.flow_calls.specs.declared.call.Op.TheVariants as ops
use Rattle.flow_grammar.specs.Program.{call_at}
use Rattle.flow_grammar.specs.Limits.{calls_in}
use Rattle.flow_grammar.specs.Draft.{open_calls, IsCounted}
use Rattle.flow_grammar.proofs.Counting.{counted-end, open_calls-append}
use Rattle.flow_grammar.proofs.draft.Draft.quit.Goals as goal

pub returns-clause-counted : goal.returns-clause-counted
returns-clause-counted c =
    let old = c.args.self.now in
    let closed = c.end_phase.new.self in
    let counted = counted-end old.parts.items closed.parts.items c.in-Some.opening old.opening old.calls c.args.number old.count c.in-Some.is c.requires.counted c.in_ok-end_phase.ensures.parts in
    let quit = call_at c.args.number 2 ops.Quit ∷ [] in
    let whole : closed.count + 1 ≡ calls_in closed.parts.items + open_calls closed.opening (closed.calls ++ quit) =
    omega (arith, counted, c.end_phase.ensures.count, open_calls-append closed.opening closed.calls quit, ap (λ o. open_calls o closed.calls) c.end_phase.ensures.opening, ap length c.in_ok-end_phase.ensures.calls) in
    subst IsCounted (sym c.in_ok-push-2.ensures) whole
