use Rattle.std.proofs.Common.{refl, sym, ap, ◌∙◌, subst, true, false, [], ◌∷◌}
use Rattle.flow_rules.specs.declared.change.Change.TheVariants as changes
use Rattle.replica.specs.Caught.{ReplicaView, caught_up}
use Rattle.flow_rules.specs.Lawful.{AreLawful}
use Rattle.replica_tests.proofs.Lone.{same-lone}
use Rattle.replica_tests.proofs.rows.replica_at_1.Goals as goal

pub catch_up-requires-clause-lawful : goal.catch_up-requires-clause-lawful
catch_up-requires-clause-lawful g c =
    let may = same-lone 4 c.rule.result c.in_ok-rule.rule c.in_ok-rule.ensures c.rule.ensures in
    subst (λ (r : ReplicaView). AreLawful r.limits r.flows (changes.Added c.in_ok-rule.rule ∷ [])) (sym c.in_ok-replica.ensures) (refl, may false, tt)

pub returns-clause-next : goal.returns-clause-next
returns-clause-next g c =
    let added = changes.Added c.in_ok-rule.rule ∷ [] in
    let may = same-lone 4 c.rule.result c.in_ok-rule.rule c.in_ok-rule.ensures c.rule.ensures in
    subst (λ (r : ReplicaView). AreLawful r.limits r.flows (changes.Isolated true ∷ []))
    (sym (c.in_ok-catch_up.ensures.ok ∙ ap (λ (r : ReplicaView). caught_up r added) c.in_ok-replica.ensures)) (tt, may true, tt)
