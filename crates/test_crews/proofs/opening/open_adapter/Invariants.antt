use Rattle.std.proofs.Common.{◌≡◌, ℕ, [], take}
use Rattle.flow_calls.specs.Entries.{calls_by, numbers_by}
use Rattle.test_crews.proofs.opening.open_adapter.Given as goal

abbrev pub invariant-loop-call : goal.invariant-loop-call
invariant-loop-call l = record {
  limits : l.adapter.limits ≡ l.fn.limits;
  calls : calls_by 0 l.adapter.history ≡ take l.call-index l.calls;
  frames : (who : ℕ) → numbers_by who l.adapter.history ≡ [];
}
