-- What contracts see of a history that the code keeps: its entries, how many more can be added without memory, and how many of these
-- are spare.
use Rattle.std.specs.Prelude.{ℕ, ◌+◌, ◌≤◌, ◌^◌, List, length}
use Rattle.flow_calls.specs.declared.entry.Entry.{Entry}
use Rattle.adapter.specs.declared.spare.Spare.{Spare}

pub record KeptHistory : Type 0 where
  pub entries : List Entry
  pub room : ℕ
  pub spare : Spare

-- so many entries can be added beside those that are spare, and the history stays short enough to be counted
pub record IsReady (more : ℕ) (h : KeptHistory) : Type 0 where
  pub within : h.spare.lines + h.spare.frames + more ≤ h.room
  pub short : length h.entries + h.spare.lines + h.spare.frames + more ≤ 2 ^ 32

-- a line's entry can be added, and room for the frames that are spare is left
pub record IsReadyForLine (h : KeptHistory) : Type 0 where
  pub within : 1 + h.spare.frames ≤ h.room
  pub short : length h.entries + 1 + h.spare.frames ≤ 2 ^ 32
