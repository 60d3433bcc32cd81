use Rattle.std.proofs.Common.{◌<◌, ◌≤◌, ◌∙◌, sym, ap, Some, arith}
use Rattle.op_queues.proofs.Bits.{length-viewed, slice_get-viewed}
use Rattle.op_queues.proofs.outcomes.Outcomes.get.Goals as goal

pub read_bit-requires : goal.read_bit-requires
read_bit-requires c =
    let within : c.self.inside.len ≤ 1024 = c.self.invariant in
    omega (arith, within, length-viewed c.self.inside.words c.self.inside.len c.args.self.now c.self.view_is, c.requires)

pub returns : goal.returns
returns c =
    let below : c.args.i < c.self.inside.len =
    omega (arith, length-viewed c.self.inside.words c.self.inside.len c.args.self.now c.self.view_is, c.requires) in
    slice_get-viewed c.self.inside.words c.self.inside.len c.args.self.now c.self.view_is c.args.i below
    ∙ ap Some (sym c.read_bit.ensures)
