use Rattle.std.proofs.Common.{rules}
use Rattle.indirect_counters.proofs.Creating.{CanAdd-clear}
use Rattle.indirect_counters.proofs.Unused.{least_unused-free}
use Rattle.indirect_counters.proofs.indirects.Indirects.create_fault.Goals as goal

pub returns-clause-clear : goal.returns-clause-clear
returns-clause-clear c = λ none. CanAdd-clear c.args.limits.now.rxq c.args.self.now.entries c.args.id c.args.attr.now c.args.action.now (least_unused-free c.args.self.now.entries) (search rules)
