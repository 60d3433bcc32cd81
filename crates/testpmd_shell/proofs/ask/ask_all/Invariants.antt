use Rattle.std.proofs.Common.{◌≡◌, ◌++◌, drop}
use Rattle.whole_history.specs.Serial.{asks_of}
use Rattle.testpmd_shell.proofs.ask.ask_all.Given as goal

-- the calls that are left add, behind what the history has now, what all of them were to add
abbrev pub invariant-loop-call : goal.invariant-loop-call
invariant-loop-call l = record {
  limits : l.adapter.limits ≡ l.initial.adapter.limits;
  asked : l.adapter.history ++ asks_of l.initial.adapter.limits l.caller.0 (drop l.call-index l.calls) l.adapter.history
      ≡ l.initial.adapter.history ++ asks_of l.initial.adapter.limits l.caller.0 l.calls l.initial.adapter.history;
}
