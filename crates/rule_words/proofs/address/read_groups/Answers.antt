-- The loop's group is the one at this place among the text's.
use Rattle.std.proofs.Common.{rules, tests, ◌≡◌, ◌+◌, ◌*◌, ◌<◌, ◌≤◌, eqb, length, get_or, map, drop, None, Some, arith, ap, sym, ◌∙◌}
use Rattle.std.proofs.lemmas.List.{at_drop_all, length_push}
use Rattle.std.proofs.lemmas.Iterator.Consumers.{YieldsList-turn, YieldsList-end, YieldsList-at}
use Rattle.std.proofs.lemmas.Iterator.Splits.{YieldsList-from_slice_split}
use Rattle.std.specs.List.{slice_split}
use Rattle.rule_words.specs.Number.{number_from}
use Rattle.rule_words.specs.Address.{pieces, group_of, factor_of, most_groups, number_of_groups}
use Rattle.rule_words.proofs.Bounds.{place-lt}
use Rattle.rule_words.proofs.Groups.{number_from-some, number_from-none, groups_read-many, groups_read-none, groups_read-all, power-le, factor-some}
use Rattle.rule_words.proofs.address.read_groups.Goals as goal

pub returns-then-count-most-clause-value : goal.returns-then-count-most-clause-value
returns-then-count-most-clause-value c =
    let a = c.args.address in
    let count = c.loop-group.count in
    let text = c.args.text.now in
    let separator = c.separator-separator.result in
    let split = slice_split (λ byte. eqb byte separator) text in
    let same : split ≡ pieces a text = ap (λ s. slice_split (λ byte. eqb byte s) text) c.separator-separator.ensures in
    let turn : (length c.loop-group.yielded < length split) × (c.in-Some.group.now ≡ get_or split (length c.loop-group.yielded) c.in-Some.group.now) =
    YieldsList-turn {v = λ x. x.now} (YieldsList-at c.into_iter-group-iterator.ensures.into_iter_gives (YieldsList-from_slice_split _ (λ byte. eqb byte separator) text
    c.split-group-items.ensures.rest c.split-group-items.ensures.done c.split-group-items.ensures.closure (λ x b q h. search (rules, tests))))
    c.loop-group.yielded _ c.loop-group.yielded_by _ _ c.in-Some.group c.in-Some.is c.next.ensures.steps in
    let all = pieces a text in
    let within : count < length all = omega (arith, turn.0, ap length same, c.loop-group.invariant.0) in
    sym (groups_read-many a all (omega (arith, within, c.if-count-most.true, c.most_groups-most.ensures)))

pub returns-in_err-number-clause-value : goal.returns-in_err-number-clause-value
returns-in_err-number-clause-value c =
    let a = c.args.address in
    let count = c.loop-group.count in
    let text = c.args.text.now in
    let separator = c.separator-separator.result in
    let split = slice_split (λ byte. eqb byte separator) text in
    let same : split ≡ pieces a text = ap (λ s. slice_split (λ byte. eqb byte s) text) c.separator-separator.ensures in
    let turn : (length c.loop-group.yielded < length split) × (c.in-Some.group.now ≡ get_or split (length c.loop-group.yielded) c.in-Some.group.now) =
    YieldsList-turn {v = λ x. x.now} (YieldsList-at c.into_iter-group-iterator.ensures.into_iter_gives (YieldsList-from_slice_split _ (λ byte. eqb byte separator) text
    c.split-group-items.ensures.rest c.split-group-items.ensures.done c.split-group-items.ensures.closure (λ x b q h. search (rules, tests))))
    c.loop-group.yielded _ c.loop-group.yielded_by _ _ c.in-Some.group c.in-Some.is c.next.ensures.steps in
    let all = pieces a text in
    let within : count < length all = omega (arith, turn.0, ap length same, c.loop-group.invariant.0) in
    let place : get_or all count c.in-Some.group.now ≡ c.in-Some.group.now =
    ap (λ gs. get_or gs count c.in-Some.group.now) (sym same) ∙ ap (λ k. get_or split k c.in-Some.group.now) c.loop-group.invariant.0 ∙ sym turn.1 in
    let is : group_of a c.in-Some.group.now ≡ None = sym c.in_err-number.ensures.value in
    c.from_residual.ensures
    ∙ sym (groups_read-none a all (sym c.loop-group.invariant.3
    ∙ number_from-none (group_of a) (factor_of a) c.loop-group.value count all c.in-Some.group.now within (ap (group_of a) place ∙ is)))

pub overflow_mul-value : goal.overflow_mul-value
overflow_mul-value c =
    let a = c.args.address in
    let few : c.loop-group.count + 1 ≤ most_groups a = omega (arith, c.loop-group.invariant.1, c.if-count-most.false, c.most_groups-most.ensures) in
    let bound = place-lt (factor_of a) c.loop-group.count c.loop-group.value 0 c.loop-group.invariant.2 (factor-some a) in
    omega (arith, bound, power-le a (c.loop-group.count + 1) few, ap (λ f. c.loop-group.value * f) c.factor-factor.ensures)

pub overflow_add-value : goal.overflow_add-value
overflow_add-value c =
    let a = c.args.address in
    let few : c.loop-group.count + 1 ≤ most_groups a = omega (arith, c.loop-group.invariant.1, c.if-count-most.false, c.most_groups-most.ensures) in
    let small : c.in_ok-number.number < factor_of a = c.in_ok-number.ensures.small in
    let bound = place-lt (factor_of a) c.loop-group.count c.loop-group.value c.in_ok-number.number c.loop-group.invariant.2 small in
    omega (arith, bound, power-le a (c.loop-group.count + 1) few, ap (λ f. c.loop-group.value * f) c.factor-factor.ensures)

pub loop-group-preserved : goal.loop-group-preserved
loop-group-preserved c =
    let a = c.args.address in
    let count = c.loop-group.count in
    let text = c.args.text.now in
    let separator = c.separator-separator.result in
    let split = slice_split (λ byte. eqb byte separator) text in
    let same : split ≡ pieces a text = ap (λ s. slice_split (λ byte. eqb byte s) text) c.separator-separator.ensures in
    let turn : (length c.loop-group.yielded < length split) × (c.in-Some.group.now ≡ get_or split (length c.loop-group.yielded) c.in-Some.group.now) =
    YieldsList-turn {v = λ x. x.now} (YieldsList-at c.into_iter-group-iterator.ensures.into_iter_gives (YieldsList-from_slice_split _ (λ byte. eqb byte separator) text
    c.split-group-items.ensures.rest c.split-group-items.ensures.done c.split-group-items.ensures.closure (λ x b q h. search (rules, tests))))
    c.loop-group.yielded _ c.loop-group.yielded_by _ _ c.in-Some.group c.in-Some.is c.next.ensures.steps in
    let all = pieces a text in
    let within : count < length all = omega (arith, turn.0, ap length same, c.loop-group.invariant.0) in
    let place : get_or all count c.in-Some.group.now ≡ c.in-Some.group.now =
    ap (λ gs. get_or gs count c.in-Some.group.now) (sym same) ∙ ap (λ k. get_or split k c.in-Some.group.now) c.loop-group.invariant.0 ∙ sym turn.1 in
    let is : group_of a c.in-Some.group.now ≡ Some c.in_ok-number.number = sym c.in_ok-number.ensures.value in
    let small : c.in_ok-number.number < factor_of a = c.in_ok-number.ensures.small in
    let bound = place-lt (factor_of a) count c.loop-group.value c.in_ok-number.number c.loop-group.invariant.2 small in (
      omega (arith, c.loop-group.invariant.0, length_push c.loop-group.yielded c.in-Some.group),
      omega (arith, c.loop-group.invariant.1, c.if-count-most.false, c.most_groups-most.ensures),
      omega (arith, bound, ap (λ f. c.loop-group.value * f) c.factor-factor.ensures),
      ap (λ f. number_from (group_of a) (factor_of a) (c.loop-group.value * f + c.in_ok-number.number) (drop (count + 1) all)) c.factor-factor.ensures
          ∙ sym (number_from-some (group_of a) (factor_of a) c.loop-group.value count c.in_ok-number.number all c.in-Some.group.now within (ap (group_of a) place ∙ is))
          ∙ c.loop-group.invariant.3,
    )

pub returns-clause-value : goal.returns-clause-value
returns-clause-value c =
    let a = c.args.address in
    let count = c.loop-group.count in
    let text = c.args.text.now in
    let separator = c.separator-separator.result in
    let split = slice_split (λ byte. eqb byte separator) text in
    let same : split ≡ pieces a text = ap (λ s. slice_split (λ byte. eqb byte s) text) c.separator-separator.ensures in
    let end : (map (λ x. x.now) c.loop-group.yielded ≡ split) × (length c.loop-group.yielded ≡ length split) =
    YieldsList-end {v = λ x. x.now} (YieldsList-at c.into_iter-group-iterator.ensures.into_iter_gives (YieldsList-from_slice_split _ (λ byte. eqb byte separator) text
    c.split-group-items.ensures.rest c.split-group-items.ensures.done c.split-group-items.ensures.closure (λ x b q h. search (rules, tests))))
    c.loop-group.yielded _ c.loop-group.yielded_by _ _ c.in-None.is c.next.ensures.steps in
    let all = pieces a text in
    let whole : count ≡ length all = c.loop-group.invariant.0 ∙ end.1 ∙ ap length same in
    let is : number_of_groups a all ≡ Some c.loop-group.value =
    sym c.loop-group.invariant.3 ∙ at_drop_all (number_from (group_of a) (factor_of a) c.loop-group.value) all count (omega (arith, whole)) in
    ap (λ n. Some (record { count = n; value = c.loop-group.value })) whole ∙ sym (groups_read-all a all c.loop-group.value (omega (arith, whole, c.loop-group.invariant.1)) is)
