use Rattle.std.proofs.Common.{arith, ap, length}
use Rattle.flow_grammar.specs.Program.{calls_at}
use Rattle.flow_grammar.specs.Draft.{open_calls}
use Rattle.flow_grammar.proofs.Counting.{open_calls-append, length-calls_at}
use Rattle.flow_grammar.proofs.draft.Draft.add.Goals as goal

pub returns-in_ok-add_ops-in-Calls-clause-counted : goal.returns-in_ok-add_ops-in-Calls-clause-counted
returns-in_ok-add_ops-in-Calls-clause-counted c =
    let old = c.args.self.now in
    let added = calls_at c.args.number 1 c.into_ops.result.items in
    omega (
      arith,
      c.requires.counted,
      open_calls-append old.opening old.calls added,
      length-calls_at c.args.number 1 c.into_ops.result.items,
      ap (open_calls old.opening) c.in_ok-add_ops-in-Calls.ensures,
      c.len.ensures.value,
      ap length c.into_ops.ensures.value,
    )
