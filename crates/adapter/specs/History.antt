-- A legal history: each call has the reply, and each frame the verdict, that the entries before it give.
use Rattle.std.specs.Prelude.{◌≡◌, ◌≤◌, List, [], ◌∷◌, ◌++◌}
use Rattle.flow_rules.specs.declared.limits.Limits.{Limits}
use Rattle.flow_calls.specs.declared.caller.Caller.{Caller}
use Rattle.flow_calls.specs.declared.call.Call.{Call}
use Rattle.flow_calls.specs.declared.parcel.Parcel.{Parcel}
use Rattle.flow_calls.specs.declared.entry.Entry.{Entry}
use Rattle.flow_calls.specs.declared.entry.Entry.TheVariants.{Asked, Passed}
use Rattle.port_state.specs.State.{flows_of, state_of}
use Rattle.port_state.specs.Reply.{reply_to}
use Rattle.flow_rules.specs.Walk.{verdict_of}

-- the entry is right behind these entries
abbrev pub IsRight : Limits → List Entry → Entry → Type 0
IsRight limits before (Asked caller call reply) = reply ≡ reply_to limits before call.op
IsRight limits before (Passed caller parcel verdict) = verdict ≡ verdict_of (flows_of (state_of limits before)) parcel.key

-- the entries are right behind those before them, each in turn
abbrev pub IsLegalBehind : Limits → List Entry → List Entry → Type 0
IsLegalBehind limits before [] = Unit {0}
IsLegalBehind limits before (e ∷ es) = IsRight limits before e × IsLegalBehind limits (before ++ e ∷ []) es

abbrev pub IsLegal : Limits → List Entry → Type 0
IsLegal limits history = IsLegalBehind limits [] history

-- the entry that a call makes behind a history
abbrev pub asked_by : Limits → List Entry → Caller → Call → Entry
asked_by limits before caller call = Asked caller call (reply_to limits before call.op)

-- the entry that a frame makes behind a history
abbrev pub passed_by : Limits → List Entry → Caller → Parcel → Entry
passed_by limits before caller parcel = Passed caller parcel (verdict_of (flows_of (state_of limits before)) parcel.key)

-- the entry is a frame that a packet worker let pass behind a history, with the verdict that the history gives
abbrev pub IsFrame : Limits → List Entry → Entry → Type 0
IsFrame limits before (Asked caller call reply) = ⊥
IsFrame limits before (Passed caller parcel verdict) =
    (9 ≤ caller.0) × (caller.0 ≤ 24) × (verdict ≡ verdict_of (flows_of (state_of limits before)) parcel.key)
