use Rattle.std.proofs.Common.{◌≡◌, ◌++◌, ◌∷◌, [], List, length, ap, sym, subst, ◌∙◌}
use Rattle.rule_index.specs.declared.table.Table.{Table}
use Rattle.rule_index.specs.declared.turn.Turn.{Turn}
use Rattle.rule_index.specs.Turns.{AreInTurn, IsCut}
use Rattle.rule_index.proofs.Turned.{AreInTurn-push, new_turn}
use Rattle.rule_index.proofs.tables.Tables.push.Goals as goal

pub invariant_of-self-2 : goal.invariant_of-self-2
invariant_of-self-2 c =
    let list : c.push_reserved.new.self.items ≡ c.self.inside.list.items ++ c.args.table ∷ [] =
    c.push_reserved.ensures.items ∙ ap (λ (xs : List Table). xs ++ c.args.table ∷ []) c.in_ok-reserve.ensures.items in
    let number : length c.as_slice.result.now ≡ length c.self.inside.list.items = ap length (c.as_slice.ensures.value ∙ c.in_ok-reserve.ensures.items) in
    let cut : IsCut c.self.inside.turns.items c.turn_by-turn.result.order c.cut-place.result =
    subst (λ (xs : List Turn). IsCut xs c.turn_by-turn.result.order c.cut-place.result) c.as_slice-2.ensures.value c.cut-place.ensures in
    subst (λ (xs : List Table). AreInTurn (record { list = xs; turns = c.insert.new.self.items })) (sym list)
    (subst (λ (xs : List Turn). AreInTurn (record { list = c.self.inside.list.items ++ c.args.table ∷ []; turns = xs })) (sym c.in_ok-insert.ensures.items)
    (AreInTurn-push c.self.inside.list.items c.self.inside.turns.items c.args.table c.turn_by-turn.result c.cut-place.result c.self.invariant cut
    (ap (λ (t : Turn). t.number) c.turn_by-turn.ensures.is ∙ number)
    (new_turn c.self.inside.list.items c.args.table c.turn_by-turn.result (length c.as_slice.result.now) number c.turn_by-turn.ensures.is c.turn_by-turn.ensures.low)))
