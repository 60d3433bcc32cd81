use Rattle.std.proofs.Common.{rules}
use Rattle.flow_port.proofs.Asking.{left_behind}
use Rattle.flow_port.proofs.held.Held.ask.Goals as goal

pub returns-clause-grew : goal.returns-clause-grew
returns-clause-grew c = left_behind c.args.caller c.args.call.now c.step-reply.result _ _ (search rules) (search rules)
