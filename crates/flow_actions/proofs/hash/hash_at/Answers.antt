use Rattle.std.proofs.Common.{rules, arith, ap, sym, ◌∙◌}
use Rattle.std.specs.Int.Bits.{bit_xor, xor_zero_r}
use Rattle.std.proofs.lemmas.List.{drop_all}
use Rattle.flow_actions.specs.Hash.{windows_at, hash_at}
use Rattle.flow_actions.proofs.Windows.{hash_at-step}
use Rattle.flow_actions.proofs.hash.hash_at.Goals as goal

pub loop-byte-preserved : goal.loop-byte-preserved
loop-byte-preserved c =
    let at = c.loop-byte.byte-index in (
      omega (arith, c.loop-byte.invariant.0),
      hash_at-step c.loop-byte.hash c.byte_hash-hash.result c.loop-byte.place at c.args.bytes.now (search rules) c.byte_hash-hash.ensures ∙ c.loop-byte.invariant.1,
    )

pub returns : goal.returns
unfolding windows_at
returns c =
    sym (xor_zero_r c.loop-byte.hash)
    ∙ (ap (λ bytes. bit_xor c.loop-byte.hash (hash_at c.loop-byte.place bytes)) (sym (drop_all c.loop-byte.byte-index c.args.bytes.now (search rules)))
    ∙ c.loop-byte.invariant.1)
