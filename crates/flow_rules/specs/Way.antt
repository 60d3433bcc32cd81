-- A walk that is on its way in the code, beside the record of the definition.
use Rattle.std.specs.Prelude.{◌≡◌, List, Option, None, Some}
use Rattle.packet_headers.specs.declared.edits.Edit.{Edit}
use Rattle.packet_headers.specs.declared.items.LayerAt.{LayerAt}
use Rattle.flow_rules.specs.declared.counter.Counter.{Counter}
use Rattle.flow_rules.specs.declared.walk.Way.{Way}
use Rattle.flow_rules.specs.Walk.{Walked}

-- the frame's layers as they came, or as they were edited
abbrev pub layers_now : List LayerAt → Option (List LayerAt) → List LayerAt
layers_now layers None = layers
layers_now layers (Some edited) = edited

-- the walk of a frame of these layers, with these counters named and these edits done
abbrev pub walked_on : List LayerAt → Way → List Counter → List Edit → Walked
walked_on layers way named edits =
    record { layers = layers_now layers way.edited; mark = way.mark; hash = way.hash; path = way.path.items; named = named; edits = edits; next = way.next }

-- the code is as far as this walk. It keeps neither the counters, nor the edits, but what these made of the layers.
abbrev pub IsAt : List LayerAt → Way → Walked → Type 0
IsAt layers way walked = walked ≡ walked_on layers way walked.named walked.edits
