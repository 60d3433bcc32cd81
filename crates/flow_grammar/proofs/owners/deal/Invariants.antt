use Rattle.flow_grammar.proofs.Dealing.{Deals}
use Rattle.flow_grammar.proofs.owners.deal.Given as goal

-- what was dealt, and what the calls that are left come to
abbrev pub invariant-loop-call : goal.invariant-loop-call
invariant-loop-call l = Deals l.shell l.agents l.call-iterator.rest.items l.fn.calls
