-- The serial history: the sections and phases in order, in each phase the shell's calls, then the agents' by number, and
-- then the frames by worker 0.
use Rattle.std.specs.Prelude.{ℕ, ◌+◌, List, [], ◌∷◌, ◌++◌, length}
use Rattle.flow_rules.specs.declared.limits.Limits.{Limits}
use Rattle.capture_files.specs.Record.{Frame}
use Rattle.flow_calls.specs.declared.caller.Caller.{Caller}
use Rattle.flow_calls.specs.declared.call.Call.{Call}
use Rattle.flow_calls.specs.declared.entry.Entry.{Entry}
use Rattle.adapter.specs.History.{asked_by, passed_by}
use Rattle.flow_grammar.specs.declared.part.Part.{Part}
use Rattle.flow_grammar.specs.declared.part.Part.TheVariants.{Section, Phase}
use Rattle.whole_history.specs.Reach.{first, taken_by, left_by, parcel_of}

abbrev pub caller_at : ℕ → Caller
caller_at who = record { 0 = who }

-- what the calls of a caller add to a history
abbrev pub asks_of : Limits → ℕ → List Call → List Entry → List Entry
asks_of limits who [] h = []
asks_of limits who (call ∷ calls) h =
    let asked = asked_by limits h (caller_at who) call in asked ∷ asks_of limits who calls (h ++ asked ∷ [])

-- what frames by worker 0 add to it, numbered on from a number
abbrev pub passes_of : Limits → ℕ → List Frame → List Entry → List Entry
passes_of limits number [] h = []
passes_of limits number (frame ∷ frames) h =
    let passed = passed_by limits h (caller_at 9) (parcel_of number frame) in passed ∷ passes_of limits (number + 1) frames (h ++ passed ∷ [])

-- what steps add to it, each behind those before it
abbrev pub in_turn : List (List Entry → List Entry) → List Entry → List Entry
in_turn [] h = []
in_turn (step ∷ steps) h = step h ++ in_turn steps (h ++ step h)

-- what the calls of several callers add to it, who are numbered on from a number
abbrev pub all_asks_of : Limits → ℕ → List (List Call) → List Entry → List Entry
all_asks_of limits who [] h = []
all_asks_of limits who (calls ∷ others) h = asks_of limits who calls h ++ all_asks_of limits (who + 1) others (h ++ asks_of limits who calls h)

-- What a part of a program adds to it, where the frames that remain are numbered on from a number. The agents are the
-- callers from 1 on.
abbrev pub part_of : Limits → ℕ → List Frame → Part → List Entry → List Entry
part_of limits number frames (Section calls) h = asks_of limits 0 calls h
part_of limits number frames (Phase opening count calls agents closing) h = in_turn
    (asks_of limits 0 (opening ∷ calls)
    ∷ all_asks_of limits 1 agents
    ∷ passes_of limits number (first count frames)
    ∷ asks_of limits 0 (closing ∷ []) ∷ []) h

-- what the parts of a program add to it
abbrev pub serial_from : Limits → ℕ → List Frame → List Part → List Entry → List Entry
serial_from limits number frames [] h = []
serial_from limits number frames (part ∷ parts) h = part_of limits number frames part h
    ++ serial_from limits (number + length (taken_by part frames)) (left_by part frames) parts (h ++ part_of limits number frames part h)

-- the serial history of a program over a capture's frames
abbrev pub serial : Limits → List Part → List Frame → List Entry
serial limits program frames = serial_from limits 1 frames program []
