use Rattle.std.proofs.Common.{◌++◌, ◌<◌, ◌≤◌, length, take, arith, length-append, ◌∙◌}
use Rattle.std.proofs.lemmas.List.{length-take}
use Rattle.std.proofs.lemmas.Result.{err_from_is_err_and}
use Rattle.std.proofs.KnownBytes.{Consumes-trans}
use Rattle.io_edges.proofs.to_end.read_all.Goals as goal

pub returns-then-count-limit-clause-refused : goal.returns-then-count-limit-clause-refused
returns-then-count-limit-clause-refused g c =
    let old = c.loop-count.bytes.items in
    let piece = take c.in-Ok.count c.read.new.buf in
    let more : c.args.limit < length (old ++ piece) =
    omega (arith, length-append old piece, length-take c.in-Ok.count c.read.new.buf, c.loop-count.bytes.ok.0, c.in-Ok.ensures.reads.bound) in (
      c.in-Ok.ensures.cause.kept ∙ c.loop-count.invariant.taken.calm,
      old ++ piece,
      Consumes-trans _ _ _ old piece c.loop-count.invariant.taken.consumed c.in-Ok.ensures.reads.bytes.0,
      more,
    )

pub returns-in_err-extend_from_slice-clause-refused : goal.returns-in_err-extend_from_slice-clause-refused
returns-in_err-extend_from_slice-clause-refused g c =
    let old = c.loop-count.bytes.items in
    let piece = take c.in-Ok.count c.read.new.buf in
    let within : length (old ++ piece) ≤ c.args.limit =
    omega (arith, length-append old piece, length-take c.in-Ok.count c.read.new.buf, c.loop-count.bytes.ok.0, c.in-Ok.ensures.reads.bound, c.if-count-limit.false) in
    let memory = err_from_is_err_and c.from_residual.result c.from_residual.ensures.1 in
    rw (memory.1, memory.2) (
      c.in-Ok.ensures.cause.kept ∙ c.loop-count.invariant.taken.calm,
      old ++ piece,
      Consumes-trans _ _ _ old piece c.loop-count.invariant.taken.consumed c.in-Ok.ensures.reads.bytes.0,
      within,
    )
