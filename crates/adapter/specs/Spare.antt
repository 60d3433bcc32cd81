-- Room that was taken ahead.
use Rattle.std.specs.Prelude.{ℕ, ◌+◌, ◌≤◌}
use Rattle.adapter.specs.declared.spare.Spare.{Spare}

-- none was taken
abbrev pub no_spare : Spare
no_spare = record { lines = 0; frames = 0 }

-- room for a line may be gone, and none for frames is
pub record TakesLine (old new : Spare) : Type 0 where
  pub lines : old.lines ≤ new.lines + 1
  pub frames : old.frames ≤ new.frames

-- room for so many frames may be gone, and none for lines is
pub record TakesFrames (n : ℕ) (old new : Spare) : Type 0 where
  pub lines : old.lines ≤ new.lines
  pub frames : old.frames ≤ new.frames + n

-- there is room for at least so many lines and frames, and for no fewer than before
pub record Widens (asked_lines asked_frames : ℕ) (old new : Spare) : Type 0 where
  pub asked : (asked_lines ≤ new.lines) × (asked_frames ≤ new.frames)
  pub kept : (old.lines ≤ new.lines) × (old.frames ≤ new.frames)
