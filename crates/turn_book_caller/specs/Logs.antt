-- What contracts see of a log.
use Rattle.std.specs.Prelude.{◌≡◌, ◌≢◌, ℕ, List, ◌++◌}
use Rattle.turn_book.specs.Views.{Each}
use Rattle.turn_book_caller.specs.declared.log.LogEntry.{LogEntry}
use Rattle.turn_book_caller.specs.declared.log.Log.{Log}

abbrev pub entries_of : Log → List LogEntry
entries_of log = log.entries.items

abbrev pub fixed_of : Log → Unit {0}
fixed_of log = tt

abbrev pub owner_of : Unit {0} → LogEntry → ℕ
owner_of fixed e = e.by

abbrev pub entry : ℕ → ℕ → LogEntry
entry by value = record { by = by; value = value }

-- The history after a turn: what was seen, then entries of other seats, then those that the turn gained
abbrev pub IsNoted : List LogEntry → List LogEntry → ℕ → List LogEntry → Type 0
IsNoted before after number gained = (between : List LogEntry) × (after ≡ (before ++ between) ++ gained) × Each (λ e. e.by ≢ number) between
