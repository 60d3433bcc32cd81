use Rattle.std.proofs.Common.{◌++◌, ap, ◌∙◌}
use Rattle.std.specs.Int.{bytes_high_first}
use Rattle.flow_actions.specs.Hash.{hash_of}
use Rattle.flow_actions.specs.Spread.{pair}
use Rattle.flow_actions.proofs.spread.ipv4_part.Goals as goal

pub returns : goal.returns
unfolding pair
returns c =
    c.two_parts.ensures
    ∙ (ap (λ first. hash_of (first ++ c.to_be_bytes-2.result)) c.to_be_bytes.ensures
    ∙ ap (λ second. hash_of (bytes_high_first 4 c.args.header.now.src ++ second)) c.to_be_bytes-2.ensures)
