-- The bytes of a transmit file: the frames that a history delivers, in its order, as the rules in effect edit them.
use Rattle.std.specs.Prelude.{ℕ, ◌-◌, List, [], ◌∷◌, ◌++◌, slice_get, Option, unwrap_or, if◌then◌else◌}
use Rattle.std.specs.Option.{option_map}
use Rattle.packet_headers.specs.declared.items.LayerAt.{LayerAt}
use Rattle.capture_files.specs.Record.{Frame}
use Rattle.capture_files.specs.Writing.{header_bytes, record_bytes, stamp_of}
use Rattle.flow_rules.specs.declared.limits.Limits.{Limits}
use Rattle.flow_rules.specs.Walk.{Flows}
use Rattle.flow_actions.specs.declared.verdict.Fate.{Fate}
use Rattle.replica.specs.Rewritten.{rewritten}
use Rattle.flow_calls.specs.declared.entry.Entry.{Entry}
use Rattle.flow_calls.specs.declared.entry.Entry.TheVariants.{Asked, Passed}
use Rattle.port_state.specs.State.{flows_of, state_of}
use Rattle.flow_calls.specs.Totals.{is_drop}

-- the record of a frame of these layers, behind the edits of its walk
abbrev pub record_behind : Flows → List LayerAt → Frame → List ℕ
record_behind flows key frame = record_bytes (stamp_of frame) frame.wire_len (rewritten flows key frame.bytes)

-- what a frame with that fate adds: its record, where it went to a queue
abbrev pub delivered : Fate → Flows → List LayerAt → Option Frame → List ℕ
delivered fate flows key frame = if is_drop fate then [] else unwrap_or (option_map (record_behind flows key) frame) []

-- what an entry adds behind those before it; frames are numbered from 1 on
abbrev pub record_of_entry : Limits → List Frame → List Entry → Entry → List ℕ
record_of_entry limits frames before (Asked caller call reply) = []
record_of_entry limits frames before (Passed caller parcel verdict) =
    delivered verdict.fate (flows_of (state_of limits before)) parcel.key (slice_get frames (parcel.number - 1))

-- what entries add behind those before them, each in turn
abbrev pub records_of_entries : Limits → List Frame → List Entry → List Entry → List ℕ
records_of_entries limits frames before [] = []
records_of_entries limits frames before (e ∷ es) = record_of_entry limits frames before e ++ records_of_entries limits frames (before ++ e ∷ []) es

-- the file of a history over a capture's frames
abbrev pub transmit_of : Limits → List Frame → List Entry → List ℕ
transmit_of limits frames history = header_bytes ++ records_of_entries limits frames [] history
