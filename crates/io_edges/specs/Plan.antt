-- A fault that is planned at a place in bytes. It comes once, at the first call when so many bytes were moved, and no
-- call before it moves bytes past that place.
use Rattle.std.specs.Prelude.{ℕ, ◌+◌, ◌-◌, ◌^◌, min, nat_le, Option, None, Some, if◌then◌else◌}

-- how many of so many bytes a call at this place moves: none of any number, where the planned fault comes now
abbrev pub allowed : Option ℕ → ℕ → ℕ → Option ℕ
allowed None place most = Some most
allowed (Some at) place most = if nat_le at place then None else Some (min most (at - place))

-- what is planned behind a failed call at this place
abbrev pub left_planned : Option ℕ → ℕ → Option ℕ
left_planned None place = None
left_planned (Some at) place = if nat_le at place then None else Some at

-- a count of faults behind one more
abbrev pub one_more : ℕ → ℕ
one_more faults = min (faults + 1) (2 ^ 64 - 1)
