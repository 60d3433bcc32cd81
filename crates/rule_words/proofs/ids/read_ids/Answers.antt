-- The words from a place on begin with an id, or end the list.
use Rattle.std.proofs.Common.{◌≡◌, ℕ, ◌+◌, ◌-◌, ◌≤◌, List, [], length, length-take, length-drop, take, drop, map, None, Some, Bor, arith, subst, sym, ap, ◌∙◌}
use Rattle.std.proofs.lemmas.List.{drop-drop}
use Rattle.rule_words.specs.Ids.{ids_in_front}
use Rattle.rule_words.proofs.TurnSteps.{map-rest}
use Rattle.rule_words.proofs.IdSteps.{joined, with_id, joined-push, ids-many, ids-bad, ids-ended, ids-empty}
use Rattle.rule_words.proofs.IdBounds.{ids-below}
use Rattle.rule_words.proofs.ids.read_ids.Goals as goal

pub returns-then-len-most-clause-value : goal.returns-then-len-most-clause-value
returns-then-len-most-clause-value c =
    let text = λ (w : Bor (List ℕ)). w.now in
    let name = c.args.name.now in
    let bits = c.args.bits in
    let words = map text c.args.words.now in
    let front : ids_in_front name bits (drop c.loop.at words) ≡ with_id c.in-Id.id (ids_in_front name bits (drop 2 (drop c.loop.at words))) =
    subst (λ ws. ids_in_front name bits ws ≡ with_id c.in-Id.id (ids_in_front name bits (drop 2 ws))) (map-rest text c.args.words.now c.loop.at) c.in-Id.ensures.value in
    ids-many name bits c.args.most words c.loop.ids.items c.in-Id.id (ids_in_front name bits (drop 2 (drop c.loop.at words)))
    (ap (joined c.loop.ids.items) (sym front) ∙ c.loop.invariant.same) (omega (arith, c.len.ensures.value, c.if-len-most.true))

pub returns-then-len-eq0-clause-value : goal.returns-then-len-eq0-clause-value
returns-then-len-eq0-clause-value c =
    let text = λ (w : Bor (List ℕ)). w.now in
    let words = map text c.args.words.now in
    let front : ids_in_front c.args.name.now c.args.bits (drop c.loop.at words) ≡ Some ([], drop c.loop.at words) =
    subst (λ ws. ids_in_front c.args.name.now c.args.bits ws ≡ Some ([], ws)) (map-rest text c.args.words.now c.loop.at) c.in-Other.ensures.value in
    ids-empty c.args.name.now c.args.bits c.args.most words (drop c.loop.at words) c.loop.ids.items (ids_in_front c.args.name.now c.args.bits (drop c.loop.at words))
    c.loop.invariant.same front (omega arith)

pub returns-in-Other-clause-value : goal.returns-in-Other-clause-value
returns-in-Other-clause-value c =
    let text = λ (w : Bor (List ℕ)). w.now in
    let words = map text c.args.words.now in
    let front : ids_in_front c.args.name.now c.args.bits (drop c.loop.at words) ≡ Some ([], drop c.loop.at words) =
    subst (λ ws. ids_in_front c.args.name.now c.args.bits ws ≡ Some ([], ws)) (map-rest text c.args.words.now c.loop.at) c.in-Other.ensures.value in
    ap (λ ws. Some (c.loop.ids.items, ws)) c.behind.ensures
    ∙ ids-ended c.args.name.now c.args.bits c.args.most words (drop c.loop.at words) c.loop.ids.items (ids_in_front c.args.name.now c.args.bits (drop c.loop.at words))
    c.loop.invariant.same front (omega arith) c.loop.invariant.few

pub returns-in-Other-clause-small : goal.returns-in-Other-clause-small
returns-in-Other-clause-small c =
    ids-below c.args.name.now c.args.bits c.args.most (map (λ (w : Bor (List ℕ)). w.now) c.args.words.now) c.loop.ids.items
    (map (λ (w : Bor (List ℕ)). w.now) c.behind.result.now) (returns-in-Other-clause-value c)

pub returns-in-Bad-clause-value : goal.returns-in-Bad-clause-value
returns-in-Bad-clause-value c =
    let text = λ (w : Bor (List ℕ)). w.now in
    let words = map text c.args.words.now in
    let front : ids_in_front c.args.name.now c.args.bits (drop c.loop.at words) ≡ None =
    subst (λ ws. ids_in_front c.args.name.now c.args.bits ws ≡ None) (map-rest text c.args.words.now c.loop.at) c.in-Bad.ensures.value in
    ids-bad c.args.name.now c.args.bits c.args.most words c.loop.ids.items (ids_in_front c.args.name.now c.args.bits (drop c.loop.at words))
    c.loop.invariant.same front

pub loop-preserved : goal.loop-preserved
loop-preserved c =
    let text = λ (w : Bor (List ℕ)). w.now in
    let name = c.args.name.now in
    let bits = c.args.bits in
    let words = map text c.args.words.now in
    let front : ids_in_front name bits (drop c.loop.at words) ≡ with_id c.in-Id.id (ids_in_front name bits (drop 2 (drop c.loop.at words))) =
    subst (λ ws. ids_in_front name bits ws ≡ with_id c.in-Id.id (ids_in_front name bits (drop 2 ws))) (map-rest text c.args.words.now c.loop.at) c.in-Id.ensures.value in
    let others = ids_in_front name bits (drop (c.loop.at + 2) words) in
    let two : 2 ≤ length (take (length c.args.words.now - c.loop.at) (drop c.loop.at c.args.words.now)) = c.in-Id.ensures.two tt in
    record {
      few = omega (arith, c.push.ensures.len, c.if-len-most.false, c.len.ensures.value);
      place = omega (arith, c.loop.invariant.place);
      within = omega (arith, two, length-take (length c.args.words.now - c.loop.at) (drop c.loop.at c.args.words.now), length-drop c.loop.at c.args.words.now, c.loop.invariant.within);
      same = ap (λ ids. joined ids others) c.push.ensures.items
          ∙ joined-push c.loop.ids.items c.in-Id.id others
          ∙ ap (λ ws. joined c.loop.ids.items (with_id c.in-Id.id (ids_in_front name bits ws))) (sym (drop-drop 2 c.loop.at words))
          ∙ ap (joined c.loop.ids.items) (sym front)
          ∙ c.loop.invariant.same;
    }
