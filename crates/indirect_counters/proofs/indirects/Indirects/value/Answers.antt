use Rattle.std.proofs.Common.{rules}
use Rattle.indirect_counters.proofs.Lawful.{IsSharedOn-at}
use Rattle.indirect_counters.proofs.indirects.Indirects.value.Goals as goal

pub returns-clause-lawful : goal.returns-clause-lawful
returns-clause-lawful c = λ rxq all. IsSharedOn-at rxq c.args.id c.args.self.now.entries all c.in-Some.entry.now (search rules)
