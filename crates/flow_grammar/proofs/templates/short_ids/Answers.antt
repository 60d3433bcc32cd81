use Rattle.std.proofs.Common.{◌^◌, sym, subst}
use Rattle.rule_words.specs.Ids.{AreBelow}
use Rattle.rule_words.proofs.IdBounds.{below-at}
use Rattle.flow_grammar.proofs.templates.short_ids.Goals as goal

pub short_id-requires : goal.short_id-requires
short_id-requires c =
    below-at (2 ^ 16) c.as_slice-id-items.result.now c.loop-id.id-index 0 (subst (AreBelow (2 ^ 16)) (sym c.as_slice-id-items.ensures.value) c.requires.small)
    c.loop-id-test.true
