use Rattle.flow_rules.proofs.LawfulParts.{lawful-parts}
use Rattle.flow_rules.proofs.laws.lawful_changes_come_in_parts.Goals as goal

pub returns : goal.returns
returns c = λ limits. lawful-parts limits.rxq
