-- What a counter has counted.
use Rattle.std.specs.Prelude.{ℕ, ◌+◌, ◌*◌, ◌^◌, ◌-◌, ◌≤◌}
use Rattle.flow_rules.specs.declared.counter.Count.{Count}

abbrev pub no_count : Count
no_count = record { hits = 0; bytes = 0 }

-- one frame more, of so many bytes
abbrev pub counted : Count → ℕ → Count
counted count bytes = record { hits = count.hits + 1; bytes = count.bytes + bytes }

-- each frame that was counted had a length of 32 bits
abbrev pub IsSumOfLengths : Count → Type 0
IsSumOfLengths count = count.bytes ≤ count.hits * (2 ^ 32 - 1)
