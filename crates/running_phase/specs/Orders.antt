-- Workers' lists on the way back through a history: from each entry that sent a frame, the last record of its caller is taken.
use Rattle.std.specs.Prelude.{ℕ, ◌-◌, ◌==◌, List, map, fold, length, take, slice_get, Option, None, Some, if◌then◌else◌}
use Rattle.std.specs.Option.{option_or}
use Rattle.flow_calls.specs.declared.caller.Caller.{Caller}
use Rattle.flow_calls.specs.declared.entry.Entry.{Entry}
use Rattle.flow_calls.specs.declared.entry.Entry.TheVariants.{Asked, Passed}
use Rattle.flow_calls.specs.Totals.{is_drop}
use Rattle.running_phase.specs.declared.order.SentBy.{SentBy}
use Rattle.running_phase.specs.Copies.{record_of}

-- a caller, and the records of a list
abbrev pub Held : Type 0
Held = ℕ × List (List ℕ)

abbrev pub held : SentBy → Held
held list = (list.caller.0, map record_of list.copies.items)

-- who let a frame pass that went to a queue
abbrev pub sender_of : Entry → Option Caller
sender_of (Asked caller call reply) = None
sender_of (Passed caller parcel verdict) = if is_drop verdict.fate then None else Some caller

-- the list without its last record, where it is that caller's
abbrev pub shortened_by : ℕ → Held → Held
shortened_by who h = (h.0, if who == h.0 then take (length h.1 - 1) h.1 else h.1)

-- the last record of the list, where it is that caller's
abbrev pub found_by : ℕ → Held → Option (List ℕ)
found_by who h = if who == h.0 then slice_get h.1 (length h.1 - 1) else None

-- the record of the list, or else the one of those before it
abbrev pub last_by : ℕ → Option (List ℕ) → Held → Option (List ℕ)
last_by who found h = option_or (found_by who h) found

-- the same at an entry, of who sent its frame
abbrev pub shortened : Option Caller → List Held → List Held
shortened None lists = lists
shortened (Some caller) lists = map (shortened_by caller.0) lists

abbrev pub last_found : Option Caller → List Held → Option (List ℕ)
last_found None lists = None
last_found (Some caller) lists = fold (last_by caller.0) None lists
