-- What of a history goes out, in order, and which of it one worker sends.
use Rattle.std.specs.Prelude.{◌≡◌, ℕ, ◌==◌, List, [], ◌∷◌, ◌++◌, map, Option, None, Some, IfSome, Vec, if◌then◌else◌}
use Rattle.std.specs.Global.{Global}
use Rattle.packet_headers.specs.declared.items.LayerAt.{LayerAt}
use Rattle.capture_files.specs.Record.{Frame}
use Rattle.flow_rules.specs.declared.limits.Limits.{Limits}
use Rattle.flow_rules.specs.Walk.{Flows}
use Rattle.flow_calls.specs.declared.entry.Entry.{Entry}
use Rattle.flow_calls.specs.declared.entry.Entry.TheVariants.{Asked, Passed}
use Rattle.flow_calls.specs.Entries.{caller_of}
use Rattle.flow_calls.specs.Totals.{is_drop}
use Rattle.port_state.specs.State.{flows_of, state_of}
use Rattle.history_text.specs.Transmit.{record_behind}
use Rattle.running_phase.specs.declared.copies.FrameCopy.{FrameCopy}
use Rattle.running_phase.specs.Copies.{record_of}

-- the record of a frame, where there is one
abbrev pub records_behind : Flows → List LayerAt → Option Frame → List (List ℕ)
records_behind flows key None = []
records_behind flows key (Some frame) = record_behind flows key frame ∷ []

-- what an entry sends behind those before it: the record of its frame, where that goes to a queue
abbrev pub sends : Limits → (ℕ → Option Frame) → List Entry → Entry → List (List ℕ)
sends limits look before (Asked caller call reply) = []
sends limits look before (Passed caller parcel verdict) =
    if is_drop verdict.fate then [] else records_behind (flows_of (state_of limits before)) parcel.key (look parcel.number)

-- what entries send behind those before them, each in turn
abbrev pub all_sent : Limits → (ℕ → Option Frame) → List Entry → List Entry → List (List ℕ)
all_sent limits look before [] = []
all_sent limits look before (e ∷ es) = sends limits look before e ++ all_sent limits look (before ++ e ∷ []) es

-- the same of one caller's entries
abbrev pub sent_by : ℕ → Limits → (ℕ → Option Frame) → List Entry → List Entry → List (List ℕ)
sent_by who limits look before [] = []
sent_by who limits look before (e ∷ es) = (if caller_of e == who then sends limits look before e else []) ++ sent_by who limits look (before ++ e ∷ []) es

-- what is kept is just that, where something is kept
abbrev pub AreKept : List (List ℕ) → Option (Vec FrameCopy Global) → Type 0
AreKept sent kept = IfSome kept (λ copies. map record_of copies.items ≡ sent)
