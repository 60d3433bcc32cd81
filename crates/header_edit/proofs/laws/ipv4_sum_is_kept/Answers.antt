use Rattle.std.proofs.Common.{◌∙◌}
use Rattle.header_edit.proofs.ParsedIpv4.{ipv4-found}
use Rattle.header_edit.proofs.Ipv4Sum.{ipv4_sum-kept}
use Rattle.header_edit.proofs.laws.ipv4_sum_is_kept.Goals as goal

pub returns-clause-kept : goal.returns-clause-kept
returns-clause-kept c = ipv4_sum-kept

pub returns-clause-right : goal.returns-clause-right
returns-clause-right c =
    λ e before behind h frame bytes within whole right. ipv4_sum-kept e before behind h frame bytes within whole ∙ right

pub returns-clause-parsed : goal.returns-clause-parsed
returns-clause-parsed c = ipv4-found
