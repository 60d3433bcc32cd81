use Rattle.std.proofs.Common.{◌≡◌, ℕ, ◌+◌, [], ◌∷◌, ◌++◌, List, take, drop, get_or, Some, sym, ap, ◌∙◌, arith}
use Rattle.std.specs.Option.{option_map}
use Rattle.std.proofs.lemmas.List.{drop_more, drop_all}
use Rattle.flow_actions.specs.declared.action.Action.{Action}
use Rattle.flow_rules.specs.declared.fault.Cause.{Cause}
use Rattle.flow_rules.specs.declared.fault.Fault.{Fault}
use Rattle.flow_rules.specs.Faults.{first, faults_at, action_faults}
use Rattle.flow_rules.proofs.Validity.{first_here, values}
use Rattle.flow_rules.proofs.validation.action_fault.Goals as goal

-- the first fault of the actions from this one on is the first of this one
pub returns-in-Some-clause-first : goal.returns-in-Some-clause-first
returns-in-Some-clause-first g c =
    let known = g.N.Known.kinds c.args.known.now in
    let list = c.args.list.now in
    let i = c.loop-action.action-index in
    let place = c.loop-action.place in
    let pattern = c.args.pattern.now in
    let action = c.action-item.result in
    let at_place : Cause → Fault = λ cause. record { cause = cause; at = place } in
    let from : ℕ → List Action → List Fault = λ n. action_faults c.args.rxq known pattern c.args.group place (take n list) in
    let here : first (faults_at c.args.rxq known pattern c.args.group place (take place list) action) ≡ Some (at_place c.in-Some.cause)
    = sym (c.cause_at.ensures place) ∙ ap (option_map at_place) c.in-Some.is in
    let split : drop i list ≡ action ∷ drop (i + 1) list
    = drop_more list i action c.loop-action-test.true ∙ ap (λ a. a ∷ drop (i + 1) list) (sym c.action-item.is) in
    ap Some c.fault.ensures
    ∙ sym (ap (λ rest. first (from place rest)) split
    ∙ first_here (faults_at c.args.rxq known pattern c.args.group place (take place list) action)
    (action_faults c.args.rxq known pattern c.args.group (place + 1) (take place list ++ action ∷ []) (drop (i + 1) list)) (at_place c.in-Some.cause) here)
    ∙ ap (λ n. first (from n (drop i list))) c.loop-action.invariant.0
    ∙ c.loop-action.invariant.1

-- no fault is left behind the last action, so there is none at all
pub returns-clause-values : goal.returns-clause-values
returns-clause-values g c = λ _.
    let from : List Action → List Fault
    = action_faults c.args.rxq (g.N.Known.kinds c.args.known.now) c.args.pattern.now c.args.group c.loop-action.place (take c.loop-action.action-index c.args.list.now) in
    values c.args.rxq (g.N.Known.kinds c.args.known.now) c.args.pattern.now c.args.group 0 [] c.args.list.now (omega (arith, c.ranges.rxq.fits))
    (sym c.loop-action.invariant.1 ∙ ap (λ rest. first (from rest)) (drop_all c.loop-action.action-index c.args.list.now (omega arith)))
