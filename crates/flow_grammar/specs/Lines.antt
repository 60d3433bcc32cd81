-- The lines of a script.
use Rattle.std.specs.Prelude.{ℕ, ◌-◌, ◌==◌, Bool, false, List, map, length, take, slice_get, Option, None, Some, if◌then◌else◌}
use Rattle.std.specs.List.{slice_split}
use Rattle.std.specs.Str.Lines.{strip_carriage_return}

-- there is a line, and it is empty
abbrev pub is_empty_line : Option (List ℕ) → Bool
is_empty_line None = false
is_empty_line (Some line) = length line == 0

-- the lines, but for the last one where it is empty
abbrev pub without_empty_last : List (List ℕ) → List (List ℕ)
without_empty_last lines =
    if is_empty_line (slice_get lines (length lines - 1)) then take (length lines - 1) lines else lines

-- the pieces between LFs (10): behind the last LF stands a line only where it isn't empty
abbrev pub lines_with_returns : List ℕ → List (List ℕ)
lines_with_returns script = without_empty_last (slice_split (λ byte. byte == 10) script)

-- the lines of a script, each without the one CR (13) at its end, if it has one
abbrev pub lines_of : List ℕ → List (List ℕ)
lines_of script = map strip_carriage_return (lines_with_returns script)
