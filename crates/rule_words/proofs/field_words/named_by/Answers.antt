use Rattle.std.proofs.Common.{◌≤◌, sym, subst}
use Rattle.rule_words.specs.Value.{width_of}
use Rattle.rule_words.proofs.FieldTable.{in_item}
use Rattle.rule_words.proofs.field_words.named_by.Goals as goal

pub returns-then-eq-clause-in_item : goal.returns-then-eq-clause-in_item
returns-then-eq-clause-in_item c =
    let known = in_item c.fields_of-fields.result.now c.args.kind c.loop-place.place _ c.fields_of-fields.ensures c.loop-place-test.true in
    (known.0, known.1, subst (λ form. width_of form ≤ 128) (sym c.form_of.ensures) known.2)
