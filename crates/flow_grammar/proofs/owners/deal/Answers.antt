use Rattle.std.proofs.Common.{arith, ◌≡◌, [], subst}
use Rattle.std.proofs.lemmas.Grind.{common_steps}
use Rattle.flow_grammar.proofs.Dealing.{Deals, Deals-agents}
use Rattle.flow_grammar.proofs.owners.deal.Goals as goal

pub returns-clause-agents : goal.returns-clause-agents
returns-clause-agents c =
    let last : c.loop-call.call-iterator.rest.items ≡ [] = grind (arith, common_steps) in
    Deals-agents c.loop-call.shell c.loop-call.agents c.args.calls (subst (λ rest. Deals c.loop-call.shell c.loop-call.agents rest c.args.calls) last c.loop-call.invariant)
