-- What contracts see of the value of a port's book.
use Rattle.std.specs.Prelude.{ℕ, List}
use Rattle.flow_rules.specs.declared.limits.Limits.{Limits}
use Rattle.flow_calls.specs.declared.caller.Caller.{Caller}
use Rattle.flow_calls.specs.declared.entry.Entry.{Entry}
use Rattle.flow_calls.specs.Entries.{caller_of}
use Rattle.flow_port.specs.declared.held.Held.{Held}
use Rattle.flow_port.specs.Owners.{place_of}

abbrev pub history_in : Held → List Entry
history_in h = h.adapter.history

-- the limits, and the callers in the order of their seats
abbrev pub fixed_in : Held → Limits × List Caller
fixed_in h = (h.adapter.limits, h.callers.items)

-- an entry is its caller's
abbrev pub owner_by : Limits × List Caller → Entry → ℕ
owner_by f e = place_of (caller_of e) f.1
