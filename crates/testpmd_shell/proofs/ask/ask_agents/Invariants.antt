use Rattle.std.proofs.Common.{◌≡◌, ◌+◌, ◌++◌, drop}
use Rattle.whole_history.specs.Serial.{all_asks_of}
use Rattle.testpmd_shell.proofs.ask.ask_agents.Given as goal

abbrev pub invariant-loop-calls : goal.invariant-loop-calls
invariant-loop-calls l = record {
  limits : l.adapter.limits ≡ l.initial.adapter.limits;
  number : l.caller ≡ l.calls-index + 1;
  asked : l.adapter.history ++ all_asks_of l.initial.adapter.limits (l.calls-index + 1) (drop l.calls-index l.agents) l.adapter.history
      ≡ l.initial.adapter.history ++ all_asks_of l.initial.adapter.limits 1 l.agents l.initial.adapter.history;
}
