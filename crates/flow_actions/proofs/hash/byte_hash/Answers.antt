use Rattle.std.proofs.Common.{ap, ◌∙◌}
use Rattle.std.specs.Int.Bits.{bit_xor}
use Rattle.flow_actions.proofs.Windows.{halves-make}
use Rattle.flow_actions.proofs.hash.byte_hash.Goals as goal

pub returns : goal.returns
returns c =
    ap (λ h. bit_xor h c.half_hash-2.result) c.half_hash.ensures
    ∙ (ap (bit_xor _) c.half_hash-2.ensures ∙ halves-make c.args.place c.args.byte)
