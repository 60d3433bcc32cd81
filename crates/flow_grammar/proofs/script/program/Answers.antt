-- What the draft has counted is what the program has, or a part of it.
use Rattle.std.proofs.Common.{◌≡◌, ◌+◌, ◌<◌, ◌≤◌, [], length, drop, if◌then◌else◌, arith, ap, sym, ◌∙◌}
use Rattle.flow_grammar.specs.Line.{line_of}
use Rattle.flow_grammar.specs.Program.{program_of}
use Rattle.flow_grammar.specs.Limits.{calls_in}
use Rattle.flow_grammar.specs.Draft.{program_with}
use Rattle.flow_grammar.proofs.Counting.{count-le, count-is}
use Rattle.flow_grammar.proofs.ScriptSteps.{said_by_lines, line-step, lines-end, too_large-by_calls, within_limits}
use Rattle.flow_grammar.proofs.script.program.Goals as goal

pub returns-then-count-gt-MAX_CALLS-clause-too_large : goal.returns-then-count-gt-MAX_CALLS-clause-too_large
returns-then-count-gt-MAX_CALLS-clause-too_large c =
    let script = c.args.script.now in
    let items = c.deref-line-items.result.now in
    let i = c.loop-line.line-index in
    let new = c.add.new.self in
    let n = c.loop-line.number in
    let rest = said_by_lines (drop (i + 1) items) in
    let others = if c.in_ok-ended.ended then [] else rest in
    let same : program_with new (n + 1) others ≡ program_of script =
    c.in_ok-ended.ensures.takes_in rest
    ∙ sym (line-step c.loop-line.draft n i items _ c.in_ok-said.said c.loop-line-test.true (c.in_ok-said.ensures ∙ ap line_of c.without_carriage_return.ensures))
    ∙ c.loop-line.invariant.3 in
    let many : 65536 < calls_in (program_of script) =
    omega (arith, count-le new (n + 1) others c.in_ok-ended.ensures.counted, ap calls_in same, c.count.ensures, c.if-count-gt-MAX_CALLS.true) in
    λ e. too_large-by_calls script many

pub returns-then-ended-clause-within_limits : goal.returns-then-ended-clause-within_limits
returns-then-ended-clause-within_limits c =
    let script = c.args.script.now in
    let items = c.deref-line-items.result.now in
    let i = c.loop-line.line-index in
    let new = c.add.new.self in
    let n = c.loop-line.number in
    let rest = said_by_lines (drop (i + 1) items) in
    let same : program_with new (n + 1) [] ≡ program_of script =
    ap (λ b. program_with new (n + 1) (if b then [] else rest)) (sym c.if-ended.true)
    ∙ c.in_ok-ended.ensures.takes_in rest
    ∙ sym (line-step c.loop-line.draft n i items _ c.in_ok-said.said c.loop-line-test.true (c.in_ok-said.ensures ∙ ap line_of c.without_carriage_return.ensures))
    ∙ c.loop-line.invariant.3 in
    let few : calls_in (program_of script) ≤ 65536 =
    omega (arith, count-is new (n + 1) c.in_ok-ended.ensures.counted, ap calls_in same, c.count.ensures, c.if-count-gt-MAX_CALLS.false) in
    within_limits script c.in_ok-lines.lines.items c.in_ok-lines.ensures (omega (arith, c.len.ensures, c.if-len-gt-MAX_LINES.false, c.deref-line-items.ensures.len, ap length c.deref-line-items.ensures.value)) few

pub returns-clause-within_limits : goal.returns-clause-within_limits
returns-clause-within_limits c =
    let script = c.args.script.now in
    let items = c.deref-line-items.result.now in
    let draft = c.loop-line.draft in
    let n = c.loop-line.number in
    let same : program_with draft n [] ≡ program_of script =
    sym (lines-end draft n c.loop-line.line-index items c.loop-line-test.false) ∙ c.loop-line.invariant.3 in
    let few : calls_in (program_of script) ≤ 65536 =
    omega (arith, count-is draft n c.loop-line.invariant.1, ap calls_in same, c.loop-line.invariant.2) in
    within_limits script c.in_ok-lines.lines.items c.in_ok-lines.ensures (omega (arith, c.len.ensures, c.if-len-gt-MAX_LINES.false, c.deref-line-items.ensures.len, ap length c.deref-line-items.ensures.value)) few
