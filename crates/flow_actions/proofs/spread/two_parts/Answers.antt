use Rattle.std.proofs.Common.{ap, sym, ◌∙◌}
use Rattle.std.specs.Int.Bits.{bit_xor}
use Rattle.flow_actions.specs.Hash.{hash_at}
use Rattle.flow_actions.proofs.Windows.{hash_at-append}
use Rattle.flow_actions.proofs.spread.two_parts.Goals as goal

pub returns : goal.returns
returns c =
    ap (λ h. bit_xor h c.hash_at-2.result) c.hash_at.ensures
    ∙ (ap (bit_xor (hash_at c.args.from c.args.first.now)) c.hash_at-2.ensures
    ∙ sym (hash_at-append c.args.from c.args.first.now c.args.second.now))
