use Rattle.std.proofs.Common.{◌+◌, get_or, Some, sym, subst}
use Rattle.std.proofs.lemmas.Option.{slice_get_within}
use Rattle.rule_index.specs.declared.chain.Lead.{Lead}
use Rattle.rule_index.specs.Index.{chain_of, place_of}
use Rattle.rule_index.specs.Rank.{IsTakenIn}
use Rattle.rule_index.specs.Turns.{IsCut}
use Rattle.rule_index.proofs.Scans.{no_turn, Reached, at_start, passed, one_hit, best_behind, best_at_end}
use Rattle.rule_index.proofs.scan.best_of.Goals as goal

pub loop-place-init : goal.loop-place-init
loop-place-init c = at_start c.args.slots.now (record { list = c.args.finder.now.tables.list; turns = c.turns-turns.result.now }) c.args.finder.now.places.items (chain_of c.args.finder.now) (place_of c.args.finder.now)
    c.requires c.turns-turns.ensures.in_turn c.args.group c.args.key.now c.cut-place.result c.order_of-last.result c.order_of-last.ensures
    (subst (λ n. IsCut c.turns-turns.result.now n c.cut-place.result) c.order_of.ensures c.cut-place.ensures)

pub returns-then-turn-last : goal.returns-then-turn-last
returns-then-turn-last c = best_behind c.args.slots.now (record { list = c.args.finder.now.tables.list; turns = c.turns-turns.result.now }) c.args.finder.now.places.items (chain_of c.args.finder.now) (place_of c.args.finder.now)
    c.requires c.turns-turns.ensures.in_turn c.args.group c.args.key.now c.loop-place.place c.loop-place.last c.loop-place.best c.if-turn-last.true c.loop-place.invariant

pub taken_in-requires-clause-table : goal.taken_in-requires-clause-table
taken_in-requires-clause-table c =
    let turn = c.turns-turns.ensures.in_turn.each c.loop-place.place no_turn c.loop-place-test.true in
    slice_get_within c.args.finder.now.tables.list (get_or c.turns-turns.result.now c.loop-place.place no_turn).number turn.table turn.at

pub loop-place-preserved-in_default : goal.loop-place-preserved-in_default
loop-place-preserved-in_default c = passed c.args.slots.now (record { list = c.args.finder.now.tables.list; turns = c.turns-turns.result.now }) c.args.finder.now.places.items (chain_of c.args.finder.now) (place_of c.args.finder.now)
    c.requires c.turns-turns.ensures.in_turn c.args.group c.args.key.now c.loop-place.place c.loop-place.last c.loop-place.best
    (subst (IsTakenIn c.args.slots.now c.args.finder.now.places.items (get_or c.turns-turns.result.now c.loop-place.place no_turn).number c.args.key.now) c.in_default.is c.taken_in.ensures) c.loop-place.invariant

pub loop-place-preserved : goal.loop-place-preserved
loop-place-preserved c =
    subst (λ (x : Lead). Reached c.args.slots.now c.turns-turns.result.now c.args.finder.now.places.items c.args.group c.args.key.now (c.loop-place.place + 1) (get_or c.turns-turns.result.now c.loop-place.place no_turn).order (Some x)) (sym c.earlier.ensures)
    (one_hit c.args.slots.now (record { list = c.args.finder.now.tables.list; turns = c.turns-turns.result.now }) c.args.finder.now.places.items (chain_of c.args.finder.now) (place_of c.args.finder.now)
    c.requires c.turns-turns.ensures.in_turn c.args.group c.args.key.now c.loop-place.place c.loop-place.last c.loop-place.best c.in-Some.lead c.loop-place-test.true c.if-turn-last.false
    (subst (IsTakenIn c.args.slots.now c.args.finder.now.places.items (get_or c.turns-turns.result.now c.loop-place.place no_turn).number c.args.key.now) c.in-Some.is c.taken_in.ensures) c.loop-place.invariant)

pub returns : goal.returns
returns c = best_at_end c.args.slots.now (record { list = c.args.finder.now.tables.list; turns = c.turns-turns.result.now }) c.args.finder.now.places.items (chain_of c.args.finder.now) (place_of c.args.finder.now)
    c.requires c.turns-turns.ensures.in_turn c.args.group c.args.key.now c.loop-place.place c.loop-place.last c.loop-place.best c.loop-place-test.false c.loop-place.invariant
