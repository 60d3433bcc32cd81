use Rattle.std.proofs.Common.{ℕ, List, ap, arith}
use Rattle.std.proofs.lemmas.List.FromFn.{fill_by_all}
use Rattle.pattern_items.specs.declared.pattern.Fields.{Fields}
use Rattle.pattern_items.specs.Shape.{on_field}
use Rattle.pattern_items.proofs.shape.masks.Goals as goal

pub returns : goal.returns
returns c =
    ap (λ (v : List ℕ). let fields : Fields = record { v = v } in fields)
    (fill_by_all (λ (k : ℕ). (on_field c.args.item.now.conditions.items k).mask) c.loop-field.mask-items 6 0 c.loop-field.invariant.0 (λ k h. c.loop-field.invariant.1 k (omega arith)))
