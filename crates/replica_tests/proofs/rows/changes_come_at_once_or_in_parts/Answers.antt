use Rattle.std.proofs.Common.{refl, sym, subst, true, false, [], ◌∷◌}
use Rattle.flow_rules.specs.declared.change.Change.TheVariants as changes
use Rattle.replica.specs.Caught.{ReplicaView}
use Rattle.flow_rules.specs.Lawful.{AreLawful}
use Rattle.replica_tests.proofs.Lone.{same-lone}
use Rattle.replica_tests.proofs.rows.changes_come_at_once_or_in_parts.Goals as goal

pub catch_up-requires-clause-lawful : goal.catch_up-requires-clause-lawful
catch_up-requires-clause-lawful g c =
    let may = same-lone 4 c.rule.result c.in_ok-rule.rule c.in_ok-rule.ensures c.rule.ensures in
    subst (λ (r : ReplicaView). AreLawful r.limits r.flows (changes.Added c.in_ok-rule.rule ∷ changes.Isolated true ∷ [])) (sym c.in_ok-at_once.ensures)
    (refl, may false, (tt, may true, tt))
