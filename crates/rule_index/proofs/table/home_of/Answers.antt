use Rattle.rule_index.proofs.Homes.{at_home}
use Rattle.rule_index.proofs.table.home_of.Goals as goal

pub returns-clause-home : goal.returns-clause-home
returns-clause-home c = at_home _ _ _ _ c.in_ok-table.ensures.is c.by-wanted.ensures
