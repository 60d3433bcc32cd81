-- Which frames the phases of a program take, in the capture's order.
use Rattle.std.specs.Prelude.{ℕ, ◌+◌, nat_lt, Bool, true, false, List, [], ◌∷◌, length, take, drop, Option, None, Some, ◌||◌}
use Rattle.std.specs.List.{list_any}
use Rattle.packet_headers.specs.Layers.{layers}
use Rattle.capture_files.specs.Record.{Frame}
use Rattle.flow_calls.specs.declared.parcel.Parcel.{Parcel}
use Rattle.flow_grammar.specs.declared.part.Part.{Part}
use Rattle.flow_grammar.specs.declared.part.Part.TheVariants.{Section, Phase}

-- what a phase takes of the frames that remain: so many as it counts, or all
abbrev pub first : Option ℕ → List Frame → List Frame
first None frames = frames
first (Some n) frames = take n frames

-- what it leaves
abbrev pub behind_first : Option ℕ → List Frame → List Frame
behind_first None frames = []
behind_first (Some n) frames = drop n frames

-- whether it asks for the capture's stop: it has no count, or counts more than remain
abbrev pub asks_stop : Option ℕ → List Frame → Bool
asks_stop None frames = true
asks_stop (Some n) frames = nat_lt (length frames) n

-- the same for a part of a program: a section takes no frame
abbrev pub taken_by : Part → List Frame → List Frame
taken_by (Section calls) frames = []
taken_by (Phase opening count shell agents closing) frames = first count frames

abbrev pub left_by : Part → List Frame → List Frame
left_by (Section calls) frames = frames
left_by (Phase opening count shell agents closing) frames = behind_first count frames

abbrev pub part_asks_stop : Part → List Frame → Bool
part_asks_stop (Section calls) frames = false
part_asks_stop (Phase opening count shell agents closing) frames = asks_stop count frames

-- whether a phase of the program asks for the capture's stop
abbrev pub program_asks_stop : List Part → List Frame → Bool
program_asks_stop [] frames = false
program_asks_stop (part ∷ parts) frames = part_asks_stop part frames || program_asks_stop parts (left_by part frames)

-- whether a program has a phase
abbrev pub is_phase : Part → Bool
is_phase (Section calls) = false
is_phase (Phase opening count shell agents closing) = true

abbrev pub has_phase : List Part → Bool
has_phase parts = list_any is_phase parts

-- what a history keeps of the frame of that number: its layers and its captured length
abbrev pub parcel_of : ℕ → Frame → Parcel
parcel_of number frame = record { number = number; key = layers frame.bytes; len = length frame.bytes }

-- frames numbered on from a number
abbrev pub parcels_from : ℕ → List Frame → List Parcel
parcels_from number [] = []
parcels_from number (frame ∷ frames) = parcel_of number frame ∷ parcels_from (number + 1) frames
