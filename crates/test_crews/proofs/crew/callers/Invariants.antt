use Rattle.std.proofs.Common.{◌≡◌, ◌+◌, ◌<◌, All, length, map}
use Rattle.std.specs.List.Sorted.{IsStrictlyIncreasing}
use Rattle.flow_calls.specs.declared.caller.Caller.{Caller}
use Rattle.test_crews.proofs.crew.callers.Given as goal

abbrev pub invariant-loop-worker : goal.invariant-loop-worker
invariant-loop-worker l = record {
  count : length l.callers.items ≡ l.worker + 1;
  rising : IsStrictlyIncreasing (map (λ (k : Caller). k.0) l.callers.items);
  below : All (λ n. n < 9 + l.worker) (map (λ (k : Caller). k.0) l.callers.items);
}
