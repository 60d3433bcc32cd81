use Rattle.std.proofs.Common.{◌≤◌, ◌+◌, ◌∙◌, ◌++◌, ◌∷◌, [], ap, arith}
use Rattle.op_queues.proofs.Bits.{length-viewed, outcomes-more}
use Rattle.op_queues.proofs.outcomes.Outcomes.push.Goals as goal

pub write_bit-requires : goal.write_bit-requires
write_bit-requires c = omega (arith, length-viewed c.self.inside.words c.self.inside.len c.args.self.now c.self.view_is, c.requires)

pub invariant_of-self : goal.invariant_of-self
invariant_of-self c =
    let room : c.self.inside.len + 1 ≤ 1024 =
    omega (arith, length-viewed c.self.inside.words c.self.inside.len c.args.self.now c.self.view_is, c.requires) in
    room

pub returns : goal.returns
returns c =
    outcomes-more c.self.inside.words c.write_bit.new.words c.self.inside.len c.args.ok c.write_bit.ensures.written c.write_bit.ensures.others
    ∙ ap (λ xs. xs ++ c.args.ok ∷ []) c.self.view_is
