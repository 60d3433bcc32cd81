-- What is counted stays small.
use Rattle.std.proofs.Common.{◌<◌, ◌^◌, ℕ, arith}
use Rattle.flow_rules.specs.declared.counter.Count.{Count}
use Rattle.indirect_counters.specs.Counts.{counted, IsSumOfLengths}

-- one more length
pub counted-sum : (count : Count) (bytes : ℕ) → bytes < 2 ^ 32 → IsSumOfLengths count → IsSumOfLengths (counted count bytes)
counted-sum count bytes short sum = omega (arith, short, sum)

-- so it has fewer than 97 bits
pub sum-below : (count : Count) → count.hits < 2 ^ 64 → IsSumOfLengths count → count.bytes < 2 ^ 96
sum-below count few sum = omega (arith, few, sum)
