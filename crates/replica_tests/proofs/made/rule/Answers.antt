use Rattle.std.proofs.Common.{rules, ◌≡◌, false, [], None, sym, ap, ◌∙◌, subst}
use Rattle.std.specs.List.{All, list_any}
use Rattle.flow_rules.specs.Faults.{is_unknown}
use Rattle.flow_rules.specs.RuleView.{RuleView}
use Rattle.flow_rules.specs.Valid.{IsValid, IsOnPort}
use Rattle.flow_rules.proofs.Validity.{on_port-clear}
use Rattle.flow_rules.specs.Lawful.{kinds_in}
use Rattle.replica_tests.proofs.Lone.{lone}
use Rattle.replica_tests.proofs.made.rule.Goals as goal

pub returns : goal.returns
returns g c isolated =
    let rule = c.in-Ok.rule in
    let fine : c.names_shared-shared.result ≡ false = search rules in
    lone 4 isolated rule
    (subst (IsValid rule.group rule.priority) c.actions.ensures.list c.actions.ensures.valid)
    (subst (All (IsOnPort 4)) (ap (λ (r : RuleView). r.actions) (sym c.in-Ok.ensures.rule))
    (on_port-clear (record { rxq = 4; flow_max = 8 }) (λ _. None) c.spec.result (sym c.in-Ok.ensures.fault)))
    (ap (list_any (is_unknown (kinds_in []))) (sym (c.as_slice.ensures.value ∙ c.actions.ensures.list)) ∙ sym c.names_shared-shared.ensures ∙ fine)
