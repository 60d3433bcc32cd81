-- Each turn reads the words from a place on.
use Rattle.std.proofs.Common.{arith, ◌≡◌, ◌+◌, ◌-◌, ◌≤◌, ◌<◌, List, ℕ, length, length-take, length-drop, take, drop, map, sym, ap, ◌∙◌, Bor}
use Rattle.std.proofs.lemmas.List.{drop-drop, get_or-map, length-map}
use Rattle.rule_words.proofs.TurnSteps.{turns-past, turns-end, turns-none, turns-more, map-rest}
use Rattle.rule_words.specs.Turns.{turns}
use Rattle.rule_words.proofs.turns.read_up_to.Goals as goal

pub returns-in_default-clause-value : goal.returns-in_default-clause-value
returns-in_default-clause-value g c =
    let text = λ (w : Bor (List ℕ)). w.now in
    let past : length (map text c.args.words.now) ≤ c.loop.at = omega (arith, length-map c.args.words.now text, c.in_default.ensures.lookup.3) in
    sym (turns-past c.loop.index c.loop.at c.args.ending.now g.T.TurnReader.turn c.loop.value (map text c.args.words.now) past) ∙ c.loop.invariant.same

pub returns-then-eq-clause-value : goal.returns-then-eq-clause-value
returns-then-eq-clause-value g c =
    let text = λ (w : Bor (List ℕ)). w.now in
    let words = c.args.words.now in
    let turn : c.loop.index < length (map text words) = omega (arith, length-map words text, c.loop-test.true) in
    let within : c.loop.at < length (map text words) = omega (arith, length-map words text, c.in-Some.ensures.lookup.3.0) in
    turns-end c.loop.index c.loop.at c.args.ending.now g.T.TurnReader.turn c.loop.value (map text words) c.in-Some.word.now.now turn within
    (get_or-map text words c.loop.at c.in-Some.word.now c.in-Some.word.now.now c.in-Some.ensures.lookup.3.0 ∙ ap text (sym c.in-Some.ensures.lookup.1)) (sym c.eq.ensures ∙ c.if-eq.true)
    ∙ c.loop.invariant.same

pub returns-in_default-take_turn-clause-value : goal.returns-in_default-take_turn-clause-value
returns-in_default-take_turn-clause-value g c =
    let text = λ (w : Bor (List ℕ)). w.now in
    let words = c.args.words.now in
    let turn : c.loop.index < length (map text words) = omega (arith, length-map words text, c.loop-test.true) in
    let within : c.loop.at < length (map text words) = omega (arith, length-map words text, c.in-Some.ensures.lookup.3.0) in
    turns-none c.loop.index c.loop.at c.args.ending.now g.T.TurnReader.turn c.loop.value (map text words) c.in-Some.word.now.now turn within
    (get_or-map text words c.loop.at c.in-Some.word.now c.in-Some.word.now.now c.in-Some.ensures.lookup.3.0 ∙ ap text (sym c.in-Some.ensures.lookup.1)) (sym c.eq.ensures ∙ c.if-eq.false)
    (c.in_default-take_turn.ensures.value ∙ ap (g.T.TurnReader.turn c.loop.value) (map-rest text words c.loop.at))
    ∙ c.loop.invariant.same

pub loop-preserved : goal.loop-preserved
loop-preserved g c =
    let text = λ (w : Bor (List ℕ)). w.now in
    let words = c.args.words.now in
    let turn : c.loop.index < length (map text words) = omega (arith, length-map words text, c.loop-test.true) in
    let within : c.loop.at < length (map text words) = omega (arith, length-map words text, c.in-Some.ensures.lookup.3.0) in
    let taken = c.in-Some-take_turn.taken in
    let left : drop taken (map text (take (length words - c.loop.at) (drop c.loop.at words))) ≡ drop (c.loop.at + taken) (map text words) =
    ap (drop taken) (map-rest text words c.loop.at) ∙ drop-drop taken c.loop.at (map text words) in
    record {
      few = omega (arith, c.in-Some-take_turn.ensures.few, length-take (length words - c.loop.at) (drop c.loop.at words), length-drop c.loop.at words);
      same = ap (turns (drop (c.loop.index + 1) (map text words)) c.args.ending.now g.T.TurnReader.turn c.take_turn.new.self) (sym left)
          ∙ turns-more c.loop.index c.loop.at c.args.ending.now g.T.TurnReader.turn c.loop.value c.take_turn.new.self (map text words) _ c.in-Some.word.now.now turn within
          (get_or-map text words c.loop.at c.in-Some.word.now c.in-Some.word.now.now c.in-Some.ensures.lookup.3.0 ∙ ap text (sym c.in-Some.ensures.lookup.1)) (sym c.eq.ensures ∙ c.if-eq.false)
          (c.in-Some-take_turn.ensures.value ∙ ap (g.T.TurnReader.turn c.loop.value) (map-rest text words c.loop.at))
          ∙ c.loop.invariant.same;
    }
