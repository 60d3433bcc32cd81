use Rattle.std.proofs.Common.{◌^◌, sym, subst}
use Rattle.flow_grammar.specs.Destroys.{id_bits}
use Rattle.rule_words.specs.Ids.{AreBelow}
use Rattle.rule_words.proofs.IdBounds.{below-at}
use Rattle.flow_grammar.proofs.destroys.destroy_ops.Goals as goal

pub destroy-requires : goal.destroy-requires
destroy-requires c =
    let limit = 2 ^ id_bits c.args.object in
    below-at limit c.as_slice-id-items.result.now c.loop-id.id-index 0
    (subst (AreBelow limit) (sym c.as_slice-id-items.ensures.value) c.requires) c.loop-id-test.true
