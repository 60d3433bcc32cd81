use Rattle.std.proofs.Common.{◌∙◌}
use Rattle.header_edit.proofs.ParsedStack.{stack-found}
use Rattle.header_edit.proofs.TransportSum.{transport_sum-kept}
use Rattle.header_edit.proofs.laws.transport_sum_is_kept.Goals as goal

pub returns-clause-kept : goal.returns-clause-kept
returns-clause-kept c = transport_sum-kept

pub returns-clause-right : goal.returns-clause-right
returns-clause-right c =
    λ e below between behind n t frame count rest bytes within stack parts right.
    transport_sum-kept e below between behind n t frame count rest bytes within stack parts ∙ right

pub returns-clause-parsed : goal.returns-clause-parsed
returns-clause-parsed c = stack-found
