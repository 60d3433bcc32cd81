-- What a list of entries tells of its callers and frames.
use Rattle.std.specs.Prelude.{ℕ, ◌==◌, Bool, List, filter, if◌then◌else◌, Option, None, Some}
use Rattle.std.specs.List.{filter_map}
use Rattle.flow_calls.specs.declared.call.Call.{Call}
use Rattle.flow_calls.specs.declared.parcel.Parcel.{Parcel}
use Rattle.flow_calls.specs.declared.entry.Entry.{Entry}
use Rattle.flow_calls.specs.declared.entry.Entry.TheVariants.{Asked, Passed}

-- who made an entry
abbrev pub caller_of : Entry → ℕ
caller_of (Asked caller call reply) = caller.0
caller_of (Passed caller parcel verdict) = caller.0

abbrev pub is_by : ℕ → Entry → Bool
is_by who e = caller_of e == who

-- the entries of a caller, in order
abbrev pub entries_by : ℕ → List Entry → List Entry
entries_by who es = filter (is_by who) es

abbrev pub call_by : ℕ → Entry → Option Call
call_by who (Asked caller call reply) = if caller.0 == who then Some call else None
call_by who (Passed caller parcel verdict) = None

-- the calls that a caller asked, in order
abbrev pub calls_by : ℕ → List Entry → List Call
calls_by who es = filter_map (call_by who) es

abbrev pub parcel_in : Entry → Option Parcel
parcel_in (Asked caller call reply) = None
parcel_in (Passed caller parcel verdict) = Some parcel

-- the frames that passed, in order
abbrev pub parcels_of : List Entry → List Parcel
parcels_of es = filter_map parcel_in es

abbrev pub number_by : ℕ → Entry → Option ℕ
number_by who (Asked caller call reply) = None
number_by who (Passed caller parcel verdict) = if caller.0 == who then Some parcel.number else None

-- the frames of one worker, by their numbers
abbrev pub numbers_by : ℕ → List Entry → List ℕ
numbers_by who es = filter_map (number_by who) es

abbrev pub passer_in : Entry → Option ℕ
passer_in (Asked caller call reply) = None
passer_in (Passed caller parcel verdict) = Some caller.0

-- who let frames pass, a number a frame
abbrev pub passers_of : List Entry → List ℕ
passers_of es = filter_map passer_in es
