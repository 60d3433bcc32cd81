-- When a call on an edge may fail: only where the count of its faults rose.
use Rattle.std.specs.Prelude.{◌≡◌, ℕ, ◌-◌, ◌^◌, ◌<◌, ◌≤◌, Result, OnOk, OnErr}

-- a count of faults rose, or stands at its last value
abbrev pub Rose : ℕ → ℕ → Type 0
Rose before now = before < 2 ^ 64 - 1 → before < now

-- a count of faults never falls, stays at Ok, and rose at Err
pub record HasCause {T E : Type 0} (before now : ℕ) (result : Result T E) : Type 0 where
  pub later : before ≤ now
  pub kept : OnOk result (now ≡ before)
  pub rose : OnErr result (Rose before now)
