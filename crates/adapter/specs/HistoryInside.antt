-- How the code keeps a history.
use Rattle.std.specs.Prelude.{◌+◌, ◌-◌, ◌≤◌, ◌^◌, map, length, vec_capacity}
use Rattle.adapter.specs.declared.history.History.TheInside.{Inside}
use Rattle.adapter.specs.Kept.{entry_kept}
use Rattle.adapter.specs.KeptHistory.{KeptHistory}

abbrev pub history_kept : Inside → KeptHistory
history_kept h = record { entries = map entry_kept h.items.items; room = vec_capacity h.items - length h.items.items; spare = h.spare }

-- There is room for what is spare, and a box for each frame that is. The history stays short enough to be counted.
pub record HasSpare (h : Inside) : Type 0 where
  pub within : h.spare.lines + h.spare.frames ≤ vec_capacity h.items - length h.items.items
  pub boxes : h.spare.frames ≤ length h.stock.items
  pub short : length h.items.items + h.spare.lines + h.spare.frames ≤ 2 ^ 32
